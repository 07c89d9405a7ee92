-- The snapshots that an account tells of are those that are kept.
use Rattle.std.proofs.Common.{◌≡◌, List, [], ◌∷◌, ◌++◌, map, length, drop, Bool, true, false, Some, None, cond, refl, sym, ap, ◌∙◌}
use Rattle.std.specs.Prelude.{Contains, nat_lt}
use Rattle.std.proofs.lemmas.List.{length-map, map-append}
use Rattle.op_model.specs.Operation.{Operation}
use Rattle.op_model.proofs.Members.{at_head, in_tail}
use Rattle.wire_form.specs.Session.{SessionValue, same_session}
use Rattle.replica_model.specs.Replica.{Kept, LIMIT, all_but_first, kept_at, keeping}
use Rattle.replica_model.specs.Seen.{Snapshot, kept_for}
use Rattle.replica_model.specs.Seen as seen

-- what is told of a snapshot that is kept
abbrev pub kept_as : (SessionValue → List Operation) → Kept → Snapshot
kept_as f k = record { session = k.session; seen = f k.session }

pub same_kept : (f g : SessionValue → List Operation) (ks : List Kept) → ((k : Kept) → Contains ks k → f k.session ≡ g k.session)
    → map (kept_as f) ks ≡ map (kept_as g) ks
same_kept f g [] same = refl
same_kept f g (k ∷ ks) same =
    let first = same k (at_head k ks) in
    let others = same_kept f g ks (λ x h. same x (in_tail k ks x h)) in
    λ i. record { session = k.session; seen = first i } ∷ others i

pub none_for : (f : SessionValue → List Operation) (ks : List Kept) (s : SessionValue) → kept_at ks s ≡ None → kept_for (map (kept_as f) ks) s ≡ None
none_for f [] s none = refl
none_for f (k ∷ ks) s none = by (same_session k.session s) none (none_for f ks s)
  where
    by : (b : Bool) → cond b (Some k) (kept_at ks s) ≡ None → (kept_at ks s ≡ None → kept_for (map (kept_as f) ks) s ≡ None)
        → cond b (Some (f k.session)) (kept_for (map (kept_as f) ks) s) ≡ None
    by true e rest = absurd cc
    by false e rest = rest e

pub some_for : (f : SessionValue → List Operation) (ks : List Kept) (s : SessionValue) (k : Kept) → kept_at ks s ≡ Some k
    → kept_for (map (kept_as f) ks) s ≡ Some (f k.session)
some_for f [] s k some = absurd cc
some_for f (x ∷ ks) s k some = by (same_session x.session s) some (some_for f ks s k)
  where
    by : (b : Bool) → cond b (Some x) (kept_at ks s) ≡ Some k
        → (kept_at ks s ≡ Some k → kept_for (map (kept_as f) ks) s ≡ Some (f k.session))
        → cond b (Some (f x.session)) (kept_for (map (kept_as f) ks) s) ≡ Some (f k.session)
    by true e rest = let one : x ≡ k = cc in ap (λ (y : Kept). Some (f y.session)) one
    by false e rest = rest e

drop_kept : (f : SessionValue → List Operation) (ks : List Kept) → drop 1 (map (kept_as f) ks) ≡ map (kept_as f) (all_but_first ks)
drop_kept f [] = refl
drop_kept f (k ∷ ks) = refl

-- one more is told of as it is kept
pub told_keeping : (f : SessionValue → List Operation) (ks : List Kept) (k : Kept)
    → seen.keeping (map (kept_as f) ks) k.session (f k.session) None ≡ map (kept_as f) (keeping k ks)
told_keeping f ks k =
    (λ i. cond (nat_lt (length-map ks (kept_as f) i) LIMIT) (map (kept_as f) ks) (drop_kept f ks i) ++ kept_as f k ∷ [])
    ∙ by (nat_lt (length ks) LIMIT)
    ∙ sym (map-append (kept_as f) (cond (nat_lt (length ks) LIMIT) ks (all_but_first ks)) (k ∷ []))
  where
    by : (b : Bool) → cond b (map (kept_as f) ks) (map (kept_as f) (all_but_first ks)) ++ kept_as f k ∷ []
        ≡ map (kept_as f) (cond b ks (all_but_first ks)) ++ kept_as f k ∷ []
    by true = refl
    by false = refl
