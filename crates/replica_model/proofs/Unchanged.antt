-- What no delivery changes of a replica: its name, what it is to send, and the number of its last own session.
use Rattle.std.proofs.Common.{◌≡◌, ℕ, List, refl}
use Rattle.sync_model.specs.Differ.{Held}
use Rattle.replica_model.specs.Mail.{Mail}
use Rattle.replica_model.specs.Replica.{Replica}
use Rattle.replica_model.specs.Delivery.{delivered}
use Rattle.replica_model.proofs.Rows.{each_row}

abbrev pub IsUnchanged : Replica → Replica → Type 0
IsUnchanged old new = (new.name ≡ old.name) × (new.group ≡ old.group) × (new.opened ≡ old.opened)

pub unchanged : (hash_of : List ℕ → ℕ) (own : Held) (r : Replica) (mail : Mail) → IsUnchanged r (delivered hash_of own r mail).new
unchanged hash_of own r = each_row hash_of own r (λ mail t. IsUnchanged r t.new) (record {
  ignoring = λ mail other. (refl, refl, refl);
  mismatch = λ mail other. (refl, refl, refl);
  delta = λ d. (refl, refl, refl);
  told_again = λ s seen k e. (refl, refl, refl);
  kept = λ s seen here none. (refl, refl, refl);
  gone = λ s p. (refl, refl, refl);
  page = λ s p k page. (refl, refl, refl);
  opening_done = λ s c root o f there first took complete. (refl, refl, refl);
  opening_sent = λ s c root o f there first took. (refl, refl, refl);
  page_done = λ s sent o a f there accepted took complete. (refl, refl, refl);
  page_sent = λ s sent o a f there accepted took. (refl, refl, refl);
  ended = λ s o there. (refl, refl, refl);
})
