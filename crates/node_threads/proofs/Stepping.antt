-- Histories of a node go on by the steps of its replica.
use Rattle.std.proofs.Common.{◌≡◌, ◌⊎◌, ℕ, List, [], ◌∷◌, ◌++◌, sym, ap, ◌∙◌, subst, refl, inl, inr}
use Rattle.std.proofs.lemmas.Grind.{flat_map-append}
use Rattle.std.proofs.lemmas.List.{append-nil}
use Rattle.delta_ops.specs.LiveMap.{store_state}
use Rattle.causal_join.specs.OrMap.{FieldsValue}
use Rattle.dots.specs.declared.refusal.Refusal.{Refusal}
use Rattle.dots.specs.declared.refusal.Refusal.TheVariants.{OutOfMemory}
use Rattle.hash_path.specs.Fnv1a.{fnv1a}
use Rattle.replica_model.proofs.Histories.{histories_one}
use Rattle.replica_model.specs.History.{Entry, Runs}
use Rattle.replica_model.specs.Mail.{Mail}
use Rattle.replica_model.specs.Replica.{Replica}
use Rattle.replica_model.specs.Step.{Answer, Call, IsStep, Refuses}
use Rattle.trie_map.specs.Keyed.{TrieMapValue}
use Rattle.node_threads.specs.declared.deed.Deed.{Deed}
use Rattle.node_threads.specs.declared.node_event.NodeEvent.{NodeEvent}
use Rattle.replica_core.specs.Stepping.{RefusesNothing}
use Rattle.shared_object.specs.Calling.{IsRefusedBy}
use Rattle.node_threads.specs.History.{IsAfter, NeverRefuses, Replies, RefusesAfter, StandsFor, act_of, entries, entries_of}

-- what runs on from where something ran to
pub runs_then : (hash_of : List ℕ → ℕ) (es fs : List Entry) (q r s : Replica) (answers more : List Answer) → Runs hash_of q es answers r
    → Runs hash_of r fs more s
    → Runs hash_of q (es ++ fs) (answers ++ more) s
runs_then hash_of [] fs q r s answers more (none, same) rest =
    subst (λ told. Runs hash_of q fs (told ++ more) s) (sym none) (subst (λ p. Runs hash_of p fs more s) same rest)
runs_then hash_of (x ∷ es) fs q r s answers more (first, others, a, (p, sent, now, after)) rest =
    (first, others ++ more, ap (λ told. told ++ more) a, (p, sent, now, runs_then hash_of es fs p r s others more after rest))

pub runs_once : (hash_of : List ℕ → ℕ) (r next : Replica) (e : Entry) (answer : Answer) (out : List Mail) → IsStep hash_of r e.act next answer out
    → Runs hash_of r (e ∷ []) (answer ∷ []) next
runs_once hash_of r next e answer out step = (answer, [], refl, (next, out, step, (refl, refl)))

-- a history with one event more
entries-more : {A : Type 0} (history : List (NodeEvent A)) (e : NodeEvent A) → entries (history ++ e ∷ []) ≡ entries history ++ entries_of e
entries-more history e = flat_map-append entries_of history (e ∷ []) ∙ ap (λ es. entries history ++ es) (append-nil (entries_of e))

module _ {A : Type 0} (first : Replica) (history : List (NodeEvent A)) (r next : Replica) (after : IsAfter first history r) where
  module _ (e : NodeEvent A) (answers : List Answer) (runs : Runs fnv1a r (entries_of e) answers next) where
    pub after_all : IsAfter first (history ++ e ∷ []) next
    after_all = (
      after.0 ++ answers,
      subst (λ es. Runs fnv1a first es (after.0 ++ answers) next) (sym (entries-more history e))
          (runs_then fnv1a (entries history) (entries_of e) first r next after.0 answers after.1 runs),
    )

    -- a root of the next stands for the longer history
    pub stands_after_all : {Hash : Type 0} (root : TrieMapValue Hash FieldsValue) → (store_state root).at ≡ next.live.at
        → StandsFor first root (history ++ e ∷ [])
    stands_after_all root same = (next, after_all, same)

  module _ (place : ℕ) (deed : Deed A) (answer : Answer) (out : List Mail) (step : IsStep fnv1a r (act_of deed) next answer out) where
    abbrev event : NodeEvent A
    event = record { place = place; deeds = deed ∷ [] }

    pub after_step : IsAfter first (history ++ event ∷ []) next
    after_step = after_all event (answer ∷ []) (runs_once fnv1a r next (record { place = place; act = act_of deed }) answer out step)

    pub stands_on : {Hash : Type 0} (root : TrieMapValue Hash FieldsValue) → (store_state root).at ≡ next.live.at → StandsFor first root (history ++ event ∷ [])
    stands_on root same = (next, after_step, same)

    pub replied : Replies first history deed answer out
    replied = (r, next, after, step)

  pub unchanged_after : next ≡ r → IsAfter first history next
  unchanged_after same = subst (λ q. IsAfter first history q) (sym same) after

-- a call is refused after a history as the replica refuses it that is there then
module _ {A : Type 0} (first : Replica) (history : List (NodeEvent A)) (r : Replica) (call : Call) (after : IsAfter first history r) where
  pub unrefused_after : RefusesNothing r call → (refusal : Refusal) → ¬ RefusesAfter first history call refusal
  unrefused_after nothing refusal (other, also, refuses) =
      nothing refusal (subst (λ q. Refuses q call refusal) (histories_one fnv1a first other r (entries history) also.0 after.0 also.1 after.1).1 refuses)

  pub foretold_after : (refusal : Refusal) → Refuses r call refusal → IsRefusedBy (λ h. RefusesAfter first h call) history refusal
  foretold_after refusal refuses = inr (r, after, refuses)

  pub without_memory_after : (refusal : Refusal) → refusal ≡ OutOfMemory → RefusesNothing r call → IsRefusedBy (λ h. RefusesAfter first h call) history refusal
  without_memory_after refusal is nothing = inl (is, unrefused_after nothing)

  pub refused_after : (refusal : Refusal) → ((refusal ≡ OutOfMemory) × RefusesNothing r call) ⊎ Refuses r call refusal
      → IsRefusedBy (λ h. RefusesAfter first h call) history refusal
  refused_after refusal (inl (none, nothing)) = without_memory_after refusal none nothing
  refused_after refusal (inr refuses) = foretold_after refusal refuses

-- and one that the model never refuses for want of memory alone
pub never_refused : {A : Type 0} (history : List (NodeEvent A)) (refusal : Refusal) → refusal ≡ OutOfMemory → IsRefusedBy NeverRefuses history refusal
never_refused history refusal is = inl (is, λ other never. never)
