-- The snapshots that a replica keeps for the sessions of others. Of this project.
use Rattle.std.specs.Prelude.{ℕ, List, refl}
use Rattle.std.specs.Coded.{Coded, code_by, coded×, coded_list, coded_ℕ}
use Rattle.std.specs.FinMap as finite
use Rattle.causal_context.specs.Code.{context_code}
use Rattle.causal_context.specs.Context.{ContextValue}
use Rattle.causal_join.specs.Code.{fields_code}
use Rattle.wire_form.specs.Session.{SessionValue}
use Rattle.sync_model.specs.Differ.{Held}

-- a snapshot: the dots that the asker of its session knew, the map as it was, with the hash of its keys' paths, and the dots that
-- were known with it
pub record SnapshotValue (Hash : Type 0) : Type 0 where
  pub seen : ContextValue
  pub hash : Hash
  pub map : Held
  pub context : ContextValue

-- those that are kept, by session, the oldest first
abbrev pub KeptValue : Type 0 → Type 0
KeptValue Hash = List (SessionValue × SnapshotValue Hash)

-- a session is stored as the triple of its numbers
abbrev pub session_code : Coded SessionValue
session_code =
    code_by (ℕ × (ℕ × ℕ)) (coded× coded_ℕ (coded× coded_ℕ coded_ℕ))
    (λ s. (s.asker, (s.answerer, s.number)))
    (λ p. record { asker = p.0; answerer = p.1.0; number = p.1.1 })
    (λ _. refl)

-- and a snapshot as its parts
abbrev pub snapshot_code : {Hash : Type 0} → Coded Hash → Coded (SnapshotValue Hash)
snapshot_code {Hash} hash =
    code_by (ContextValue × (Hash × (Held × ContextValue)))
    (coded× context_code (coded× hash (coded× (finite.code (coded_list coded_ℕ) fields_code) context_code)))
    (λ s. (s.seen, (s.hash, (s.map, s.context))))
    (λ p. record { seen = p.0; hash = p.1.0; map = p.1.1.0; context = p.1.1.1 })
    (λ _. refl)

abbrev pub kept_code : {Hash : Type 0} → Coded Hash → Coded (KeptValue Hash)
kept_code hash = coded_list (coded× session_code (snapshot_code hash))
