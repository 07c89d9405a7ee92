-- Writes that are made one after the other.
use Rattle.std.proofs.Common.{◌≡◌, ℕ, List, [], ◌∷◌, ◌++◌, map, sym, ap, ◌∙◌, subst}
use Rattle.std.proofs.lemmas.List.{map-append}
use Rattle.hash_path.specs.Fnv1a.{fnv1a}
use Rattle.replica_model.specs.History.{Entry, Runs}
use Rattle.replica_model.specs.Replica.{Replica}
use Rattle.replica_model.specs.Step.{Do, IsStep}
use Rattle.replica_core.specs.Writing.{answer_of, call_of}
use Rattle.replica_core.specs.declared.write.Write.{Write}
use Rattle.replica_core.specs.declared.wrote.Wrote.{Wrote}
use Rattle.node_threads.specs.declared.deed.Deed.{Deed}
use Rattle.node_threads.specs.Batch.{deed_of, made_at}
use Rattle.node_threads.specs.History.{act_of, entries_of}
use Rattle.node_threads.proofs.Stepping.{runs_once, runs_then}

module _ {A : Type 0} (place : ℕ) where
  abbrev entry : Deed A → Entry
  entry d = record { place = place; act = act_of d }

  made_more : (xs : List (Write A)) (w : Write A) → entries_of (made_at place (xs ++ w ∷ [])) ≡ entries_of (made_at place xs) ++ entry (deed_of w) ∷ []
  made_more xs w = ap (map entry) (map-append deed_of xs (w ∷ [])) ∙ map-append entry (map deed_of xs) (deed_of w ∷ [])

  -- one write more was made
  pub wrote_more : (r mid next : Replica) (xs ys : List (Write A)) (w : Write A) (wrote also : List Wrote) (told : Wrote)
      → Runs fnv1a r (entries_of (made_at place xs)) (map answer_of wrote) mid → IsStep fnv1a mid (Do (call_of w)) next (answer_of told) []
      → ys ≡ xs ++ w ∷ [] → also ≡ wrote ++ told ∷ [] → Runs fnv1a r (entries_of (made_at place ys)) (map answer_of also) next
  wrote_more r mid next xs ys w wrote also told runs step more longer =
      let e = entry (deed_of w) in
      let all = runs_then fnv1a (entries_of (made_at place xs)) (e ∷ []) r mid next (map answer_of wrote) (answer_of told ∷ []) runs
      (runs_once fnv1a mid next e (answer_of told) [] step) in
      let events : entries_of (made_at place ys) ≡ entries_of (made_at place xs) ++ e ∷ [] = ap (λ (zs : List (Write A)). entries_of (made_at place zs)) more
      ∙ made_more xs w in
      let answers : map answer_of also ≡ map answer_of wrote ++ answer_of told ∷ [] = ap (map answer_of) longer ∙ map-append answer_of wrote (told ∷ []) in
      subst (λ (es : List Entry). Runs fnv1a r es (map answer_of also) next) (sym events)
      (subst (λ bs. Runs fnv1a r (entries_of (made_at place xs) ++ e ∷ []) bs next) (sym answers) all)
