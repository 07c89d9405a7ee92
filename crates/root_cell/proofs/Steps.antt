-- The steps of a cell keep its rule: a seat is made, enters, or publishes a longer front.
use Rattle.std.proofs.Common.{◌≡◌, ◌≢◌, ℕ, List, [], refl, subst, ⊎_elim, slice_set}
use mathlib.Core.Option.{some}
use mathlib.Core.List.{IsPrefix}
use lib.ListN.{get_elem?}
use Rattle.atomic_table.proofs.Lists.{at_set, at_snoc}
use Rattle.crossbeam_utils.specs.Register.{Admits, TurnsAt, Turns}
use Rattle.logbook.specs.Pages.{Book}
use Rattle.root_cell.specs.Rule.{StandsIn, BeginsWithAll, Holds, Shows}
use Rattle.root_cell.proofs.Prefixes.{prefix_self, prefix_trans}

module _ {R E : Type 0} (book : Book) (stands : R → List E → Type 0) where
  -- a new seat has seen nothing
  pub admits : Admits (Holds book stands) []
  admits p views h = (
    h.0,
    λ seat v at. ⊎_elim (h.1 seat v) (λ (e : [] ≡ v). subst (λ (z : List E). IsPrefix z p.1) e (p.1, refl)) (at_snoc views [] v seat at),
  )

  -- where the front becomes longer and one seat has seen it, it begins with all that any seat has seen
  all_set : (views : List (List E)) (seat : ℕ) (old new : List E) → IsPrefix old new → BeginsWithAll old views → BeginsWithAll new (slice_set views seat new)
  all_set views seat old new longer all j v at =
      ⊎_elim (λ (t : (j ≡ seat) × (new ≡ v)). subst (λ (z : List E). IsPrefix z new) t.1 (prefix_self new))
      (λ (t : (j ≢ seat) × (get_elem? views j ≡ some v)). prefix_trans v old new (all j v t.1) longer) (at_set views seat j new v at)

  pub publishes : (seat : ℕ) (v : List E) (p q : R × List E × Book) → IsPrefix p.1 q.1 → StandsIn book stands q
      → TurnsAt (Holds book stands) seat v p q (Shows book stands)
  publishes seat v p q longer in_it views h at = (
    q.1,
    (in_it, all_set views seat p.1 q.1 longer h.1),
    (refl, prefix_trans v p.1 q.1 (h.1 seat v at) longer, in_it),
  )

  -- what pends is published
  pub publishes_due : (seat : ℕ) (v : List E) (p q d : R × List E × Book) → q ≡ d → IsPrefix p.1 d.1 → StandsIn book stands d
      → TurnsAt (Holds book stands) seat v p q (Shows book stands)
  publishes_due seat v p q d is longer in_it = publishes seat v p q (rw is longer) (rw is in_it)

  pub enters : (seat : ℕ) (v : List E) → Turns (Holds book stands) seat v (λ x. x) (Shows book stands)
  enters seat v p views h at = publishes seat v p p (prefix_self p.1) h.0 views h at
