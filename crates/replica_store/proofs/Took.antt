-- What a delivery leaves to be kept, by the table of deliveries.
use Rattle.std.proofs.Common.{◌≡◌, ℕ, ◌+◌, ◌≤◌, List, Option, Some, None, IfSome, refl, sym, ap, subst, ◌∙◌, arith}
use Rattle.op_model.specs.Meaning.{MapState, greater}
use Rattle.op_model.specs.State.{join}
use Rattle.sync_model.specs.Closing.{IsBelow, held_state}
use Rattle.sync_model.specs.Differ.{Held}
use Rattle.replica_model.specs.Mail.{Mail, Delta}
use Rattle.replica_model.specs.Replica.{Replica, restarts}
use Rattle.replica_model.specs.Delivery.{Outcome, Joined, Done, Turn, delivered, turn}
use Rattle.replica_model.specs.Step.{Take, Ask, Came, Numbered, IsCall, IsDelivery, IsStep}
use Rattle.replica_model.proofs.Growing.{below_join}
use Rattle.replica_model.proofs.Rows.{each_row}
use Rattle.replica_store.specs.Took.{TookAs, Joins, BringsAs}

row : (hash_of : List ℕ → ℕ) (own : Held) (r : Replica) (mail : Mail) → TookAs r mail (delivered hash_of own r mail).outcome (delivered hash_of own r mail).new
row hash_of own r = each_row hash_of own r (λ mail t. TookAs r mail t.outcome t.new) (record {
  ignoring = λ mail other. refl;
  mismatch = λ mail other. refl;
  delta = λ d. (d, refl, refl);
  told_again = λ s seen k e. refl;
  kept = λ s seen here none. refl;
  gone = λ s p. refl;
  page = λ s p k page. refl;
  opening_done = λ s c root o f there first took complete. (refl, below_join r.live (held_state f.built c));
  opening_sent = λ s c root o f there first took. refl;
  page_done = λ s sent o a f there accepted took complete. (refl, below_join r.live (held_state f.built a.context));
  page_sent = λ s sent o a f there accepted took. refl;
  ended = λ s o there. refl;
})

pub took : (hash_of : List ℕ → ℕ) (old : Replica) (mail : Mail) (new : Replica) (outcome : Outcome) (out : List Mail)
    → IsDelivery hash_of old mail new outcome out → TookAs old mail outcome new
took hash_of old mail new outcome out h = subst (λ (t : Turn). TookAs old mail t.outcome t.new) h.2 (row hash_of h.0 old mail)

pub took_step : (hash_of : List ℕ → ℕ) (old : Replica) (mail : Mail) (new : Replica) (outcome : Outcome) (out : List Mail)
    → IsStep hash_of old (Take mail) new (Came outcome) out → TookAs old mail outcome new
took_step hash_of old mail new outcome out h = subst (λ o. TookAs old mail o new) (let e = sym h.1 in cc) (took hash_of old mail new h.0 out h.2)

-- what was to be brought was
pub brought_step : (hash_of : List ℕ → ℕ) (old : Replica) (mail brought : Mail) (new : Replica) (outcome : Outcome) (out : List Mail)
    → BringsAs hash_of old mail brought → IsStep hash_of old (Take mail) new (Came outcome) out → Joins old brought new
brought_step hash_of old mail brought new outcome out is h = (is.0, is.1, (is.2 new h.0 out h.2).1)

pub brought_joins : {T : Type 0} (mail_in : T → Mail) (hash_of : List ℕ → ℕ) (old : Replica) (mail : Mail) (new : Replica) (outcome : Outcome) (out : List Mail)
    (found : Option T) → IfSome found (λ x. BringsAs hash_of old mail (mail_in x)) → IsStep hash_of old (Take mail) new (Came outcome) out
    → IfSome found (λ x. Joins old (mail_in x) new)
brought_joins mail_in hash_of old mail new outcome out None is h = is
brought_joins mail_in hash_of old mail new outcome out (Some x) is h = brought_step hash_of old mail (mail_in x) new outcome out is h

pub asked : (old new : Replica) (peer n : ℕ) (out : List Mail) → IsCall old (Ask peer) new (Numbered n) out → (old.opened ≤ n)
    × (restarts new ≡ record (restarts old) { opened = n })
asked old new peer n out h =
    let number : n ≡ old.opened + 1 = let e = h.5 in cc in
    (omega (arith, number), ap restarts h.4 ∙ ap (λ m. record (restarts old) { opened = m }) (sym number))
