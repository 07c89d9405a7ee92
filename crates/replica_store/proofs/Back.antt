-- A replica that comes back.
use Rattle.std.proofs.Common.{◌≡◌, ◌⊎◌, inl, inr, ℕ, true, List, [], ◌∷◌, length, map, refl, sym, ap, subst, ◌∙◌, arith, Ok, Err, Result, IfOk}
use Rattle.std.specs.List.Sorted.{IsPermutation}
use Rattle.std.proofs.lemmas.List.Sorted.{length_permutation, IsPermutation-sym}
use Rattle.sqlite_trees.specs.Tree.{Trees}
use Rattle.op_model.specs.Meaning.{MapState, state}
use Rattle.sync_model.specs.Closing.{IsBelow}
use Rattle.durable_log.specs.Log.{strings}
use Rattle.replica_model.specs.Replica.{Replica, fresh, restarts}
use Rattle.replica_store.specs.Kept.{Keeps, GainsName}
use Rattle.replica_store.specs.Rebuilt.{IsRebuilt, IsKeptAs}
use Rattle.replica_store.specs.Reading.{IsTold, HasJoined}
use Rattle.replica_store.proofs.Rebuilt.{nothing_below, rebuilt_any, rebuilt_first}

pub rebuilt_from : (ss : List (List ℕ)) (name number : ℕ) (first new : Replica) → IsTold name ss true number → first ≡ record (fresh name) { opened = number }
    → HasJoined ss first new → IsRebuilt ss new
rebuilt_from ss name number first new told begins joined =
    let r : Replica = record (fresh name) { live = new.live; opened = number } in
    let is : new ≡ r = joined.rest ∙ ap (λ (f : Replica). record f { live = new.live }) begins in
    let live : first.live ≡ state [] = ap (λ (f : Replica). f.live) begins in
    let rebuilt : IsRebuilt ss r = record {
      named = told.named refl;
      alone = told.alone;
      above = joined.above;
      least = λ p below. joined.least p (subst (λ q. IsBelow q p) (sym live) (nothing_below p)) below;
      numbers = told.numbers;
      newest = told.newest;
      group = refl;
      sessions = refl;
      kept = refl;
    } in
    subst (IsRebuilt ss) (sym is) rebuilt

pub restarts_rebuilt : (ss : List (List ℕ)) (r : Replica) → IsRebuilt ss r → restarts r ≡ r
restarts_rebuilt ss r is = λ i. record r { sessions = sym is.sessions i; kept = sym is.kept i }

pub if_ok : {X E : Type 0} {P Q : X → Type 0} (r : Result X E) → ((x : X) → P x → Q x) → IfOk r P → IfOk r Q
if_ok (Ok x) f h = f x h
if_ok (Err e) f h = tt

-- from the strings that were read
pub kept_as : (held found : List (List ℕ)) (r : Replica) → IsPermutation held found → IsRebuilt found r → IsKeptAs held r
kept_as held found r moved is = inl (rebuilt_any found held r (IsPermutation-sym held found moved) is)

pub keeps_as : (old new : Trees) (found : List (List ℕ)) (r : Replica) → IsPermutation (strings old) found → new ≡ old → IsRebuilt found r → Keeps new r
keeps_as old new found r moved same is =
    let there : IsRebuilt (strings new) r = subst (λ db. IsRebuilt (strings db) r) (sym same)
    (rebuilt_any found (strings old) r (IsPermutation-sym (strings old) found moved) is) in
    subst (IsRebuilt (strings new)) (sym (restarts_rebuilt (strings new) r there)) there

-- with no string yet
none_of : {X : Type 0} (xs : List X) → length xs ≡ 0 → xs ≡ []
none_of [] e = refl
none_of (x ∷ xs) e = absurd (omega (arith, e))

pub none_held : {X : Type 0} (f : X → List ℕ) (held : List (List ℕ)) (found : List X) → IsPermutation held (map f found) → length found ≡ 0 → held ≡ []
none_held f held found moved none =
    let empty = subst (λ xs. IsPermutation held (map f xs)) (none_of found none) moved in
    none_of held (omega (arith, length_permutation held [] empty))

pub fresh_as : (held : List (List ℕ)) (name : ℕ) (r : Replica) → held ≡ [] → r ≡ fresh name → IsKeptAs held r
fresh_as held name r none is = inr (none, is ∙ ap fresh (sym (ap (λ (f : Replica). f.name) is)))

pub fresh_kept : (first old new : Trees) (name : ℕ) (r : Replica) → strings first ≡ [] → old ≡ first → GainsName old new name → r ≡ fresh name → Keeps new r
fresh_kept first old new name r none same gains is =
    let held : strings old ≡ [] = ap strings same ∙ none in
    let there : IsRebuilt (strings new) (fresh name) = rebuilt_any (gains.0 ∷ []) (strings new) (fresh name)
    (subst (λ ss. IsPermutation (gains.0 ∷ ss) (strings new)) held gains.2) (rebuilt_first gains.0 name gains.1) in
    subst (λ (x : Replica). IsRebuilt (strings new) (restarts x)) (sym is) there
