-- What a `Watched` reader or writer counts and remembers. Of this project.
use Rattle.std.specs.Prelude.{◌≡◌, ℕ, Bool, true, false, ◌&&◌, ◌==◌, not, List, length, Result, Ok, Err}
use Rattle.trace_cli.specs.declared.watched.Watched.{Watched}

-- what is watched
abbrev pub inner_of : {T : Type 0} → Watched T → T
inner_of watched = watched.inner

-- how many reads and writes were made
abbrev pub calls_of : {T : Type 0} → Watched T → ℕ
calls_of watched = watched.calls

-- whether any read, write or flush failed
abbrev pub has_failed : {T : Type 0} → Watched T → Bool
has_failed watched = watched.failed

-- whether anything was asked after the first failure
abbrev pub has_gone_on : {T : Type 0} → Watched T → Bool
has_gone_on watched = watched.went_on

-- whether all that was written was flushed
abbrev pub is_flushed : {T : Type 0} → Watched T → Bool
is_flushed watched = watched.flushed

-- a watched value of which nothing was asked yet
pub record IsNew {T : Type 0} (watched : Watched T) : Type 0 where
  pub no_calls : calls_of watched ≡ 0
  pub no_failure : has_failed watched ≡ false
  pub not_gone_on : has_gone_on watched ≡ false
  pub flushed : is_flushed watched ≡ true

-- nothing failed, and all that was written was flushed
pub record IsSettled {T : Type 0} (watched : Watched T) : Type 0 where
  pub no_failure : has_failed watched ≡ false
  pub not_gone_on : has_gone_on watched ≡ false
  pub flushed : is_flushed watched ≡ true

-- something failed, and nothing was asked after it
pub record IsBroken {T : Type 0} (watched : Watched T) : Type 0 where
  pub failure : has_failed watched ≡ true
  pub not_gone_on : has_gone_on watched ≡ false

-- a write failed: it gave an error, or took nothing of a piece that had bytes
abbrev pub took_nothing : {E : Type 0} → Result ℕ E → List ℕ → Bool
took_nothing (Ok count) piece = (count == 0) && not (length piece == 0)
took_nothing (Err e) piece = true
