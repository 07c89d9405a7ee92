-- Sessions and their one spelling. Of this project. Numbers are big-endian.
--
-- Example: the session of asker 1, answerer 2 and number 3 is spelled by 00 00 00 00 00 00 00 01, 00 00 00 00 00 00 00 02
-- and 00 00 00 00 00 00 00 03.
use Rattle.std.specs.Prelude.{ℕ, Bool, List, ◌++◌, ◌==◌, ◌&&◌}
use Rattle.wire_form.specs.Spelling.{number}
use Rattle.wire_form.specs.Parts.{IsName}

-- what a contract sees of a `Session`: the name of the replica that asks, that of the replica that answers, and the
-- number of the session at the asker
pub record SessionValue : Type 0 where
  pub asker : ℕ
  pub answerer : ℕ
  pub number : ℕ

-- whether two sessions are one
abbrev pub same_session : SessionValue → SessionValue → Bool
same_session s t = (s.asker == t.asker) && ((s.answerer == t.answerer) && (s.number == t.number))

abbrev pub session : SessionValue → List ℕ
session s = number s.asker ++ number s.answerer ++ number s.number

-- each of the three is from 1
abbrev pub IsSession : SessionValue → Type 0
IsSession s = IsName s.asker × IsName s.answerer × IsName s.number
