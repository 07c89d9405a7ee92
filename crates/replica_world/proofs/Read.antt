-- What is read of a replica of a world, by what it shows: over plain variables.
use Rattle.std.proofs.Common.{◌≡◌, ℕ, true, List, Result, Ok, Err, IfOk}
use Rattle.dots.specs.declared.refusal.Refusal.{Refusal}
use Rattle.op_model.specs.Meaning.{MapState}
use Rattle.op_model.specs.Operation.{Operation}
use Rattle.replica_core.specs.Reading.{Lists}
use Rattle.replica_core.specs.Showing.{ShowsOperations}
use Rattle.replica_model.specs.Seen.{Account, Unclashed}
use Rattle.replica_world.specs.Reading.{IsThere, Shows}

module _ (hash_of : List ℕ → ℕ) (a : Account) (name : ℕ) (live : MapState) {Same : Type 0}
    (at : IsThere a name true × Same × (Unclashed hash_of a → ShowsOperations hash_of live (a.seen name))) where
  pub shown_as : (P : List Operation → Type 0) → ((S : List Operation) → ShowsOperations hash_of live S → P S) → Shows hash_of a name P
  shown_as P f = (at.0, λ clean. f (a.seen name) (at.2 clean))

  -- what is listed is what is shown
  pub list_shown : {T : Type 0} (items : T → List (List ℕ)) (r : Result T Refusal) (P : List ℕ → Type 0) (of : List Operation → List (List ℕ))
      → ((S : List Operation) → ShowsOperations hash_of live S → (found : List (List ℕ)) → Lists P found → found ≡ of S)
      → IfOk r (λ x. Lists P (items x)) → IfOk r (λ x. Shows hash_of a name (λ S. items x ≡ of S))
  list_shown items (Ok x) P of f h = shown_as (λ S. items x ≡ of S) (λ S shows. f S shows (items x) h)
  list_shown items (Err e) P of f h = tt
