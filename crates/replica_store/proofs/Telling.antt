-- One string more is read.
use Rattle.std.proofs.Common.{◌≡◌, ◌⊎◌, inl, inr, ℕ, suc, ◌≤◌, ◌<◌, ◌+◌, map, take, length, get_or, Bool, true, false, IsTrue, List, [], ◌∷◌, ◌++◌, refl, sym}
use Rattle.std.proofs.Common.{ap, subst, ◌∙◌, arith, Contains}
use Rattle.std.proofs.Math.Seq.{take-suc}
use Rattle.std.proofs.lemmas.List.{map-append}
use Rattle.std.proofs.lemmas.List.Elements.{Contains-append_left, Contains-append_right, Contains-append_cases}
use Rattle.op_model.specs.Meaning.{MapState, greater}
use Rattle.op_model.specs.State.{join}
use Rattle.op_model.proofs.Members.{nothing_in, at_head, head_or_tail}
use Rattle.sync_model.specs.Closing.{IsBelow}
use Rattle.replica_model.specs.Replica.{Replica, joins}
use Rattle.replica_model.proofs.Growing.{below_itself, below_join, below_below}
use Rattle.replica_store.specs.Entry.{Entry, Named, Opened, Changed, NAMED, OPENED, CHANGED, SaysNumber, SaysDelta, IsEntry}
use Rattle.replica_store.specs.Rebuilt.{Says, AreBelow}
use Rattle.replica_store.specs.Reading.{IsTold, HasJoined}
use Rattle.replica_store.proofs.Entries.{one_number, one_state, one_kind}
use Rattle.replica_store.proofs.Rebuilt.{below_other, join_below}

pub none_told : (name : ℕ) → IsTold name [] false 0
none_told name = record {
  named = λ is. absurd (let e = is in cc);
  alone = λ other says. nothing_in says.0 says.1;
  numbers = λ n says. nothing_in says.0 says.1;
  newest = inl refl;
}

-- one more of a list was looked at
pub taken_more : {X Y : Type 0} (f : X → Y) (xs : List X) (i : ℕ) (x : X) → i < length xs → x ≡ get_or xs i x
    → map f (take (i + 1) xs) ≡ map f (take i xs) ++ f x ∷ []
taken_more f xs i x within is =
    let next : i + 1 ≡ suc i = omega arith in
    ap (map f) (ap (λ n. take n xs) next ∙ take-suc xs i x within ∙ ap (λ y. take i xs ++ y ∷ []) (sym is)) ∙ map-append f (take i xs) (x ∷ [])

module _ (strings : List (List ℕ)) (string : List ℕ) where
  before : (e : Entry) → Says strings e → Says (strings ++ string ∷ []) e
  before e says = (says.0, Contains-append_left strings (string ∷ []) says.0 says.1, says.2)

  last : (e : Entry) → IsEntry string e → Says (strings ++ string ∷ []) e
  last e is = (string, Contains-append_right strings (string ∷ []) string (at_head string []), is)

  either : (e : Entry) → Says (strings ++ string ∷ []) e → IsEntry string e ⊎ Says strings e
  either e says = elim (Contains-append_cases strings (string ∷ []) says.0 says.1) [
    | inl old ↦ inr (says.0, old, says.2)
    | inr new ↦ elim (head_or_tail string [] says.0 new) [
      | inl is ↦ inl (subst (λ s. IsEntry s e) (sym is) says.2)
      | inr none ↦ absurd
          (nothing_in says.0 none)
    ]
  ]

  module _ (name : ℕ) (is_named : Bool) (number : ℕ) (told : IsTold name strings is_named number) where
    pub told_name : SaysNumber NAMED string name → IsTold name (strings ++ string ∷ []) true number
    told_name says = record {
      named = λ is. last (Named name) says;
      alone = λ other named. elim (either (Named other) named) [ inl new ↦ one_number NAMED string other name new says | inr old ↦ told.alone other old ];
      numbers = λ n opened. elim (either (Opened n) opened)
          [ inl new ↦ absurd (omega (arith, one_kind string new.bytes says.bytes OPENED NAMED new.is says.is)) | inr old ↦ told.numbers n old ];
      newest = elim told.newest [ inl none ↦ inl none | inr old ↦ inr (before (Opened number) old) ];
    }

    pub told_number : (n most : ℕ) → SaysNumber OPENED string n → ((number ≤ n) × (most ≡ n)) ⊎ ((n ≤ number) × (most ≡ number))
        → IsTold name (strings ++ string ∷ []) is_named most
    told_number n most says which = record {
      named = λ is. before (Named name) (told.named is);
      alone = λ other named. elim (either (Named other) named)
          [ inl new ↦ absurd (omega (arith, one_kind string new.bytes says.bytes NAMED OPENED new.is says.is)) | inr old ↦ told.alone other old ];
      numbers = λ m opened. elim (either (Opened m) opened) [
        | inl new ↦ elim which [
          | inl up ↦ omega (arith, one_number OPENED string m n new says, up.0, up.1)
          | inr same ↦ omega
              (arith, one_number OPENED string m n new says, same.0, same.1)
        ]
        | inr old ↦ elim which [ inl up ↦ omega (arith, told.numbers m old, up.0, up.1) | inr same ↦ omega (arith, told.numbers m old, same.0, same.1) ]
      ];
      newest = elim which [
        | inl up ↦ inr (subst (λ k. Says (strings ++ string ∷ []) (Opened k)) (sym up.1) (last (Opened n) says))
        | inr same ↦ elim told.newest [
          | inl none ↦ inl (same.1 ∙ none)
          | inr old ↦ inr
              (subst (λ k. Says (strings ++ string ∷ []) (Opened k)) (sym same.1) (before (Opened number) old))
        ]
      ];
    }

    pub told_delta : (bytes : List ℕ) → string ≡ CHANGED ∷ bytes → IsTold name (strings ++ string ∷ []) is_named number
    told_delta bytes says = record {
      named = λ is. before (Named name) (told.named is);
      alone = λ other named. elim (either (Named other) named)
          [ inl new ↦ absurd (omega (arith, one_kind string new.bytes bytes NAMED CHANGED new.is says)) | inr old ↦ told.alone other old ];
      numbers = λ m opened. elim (either (Opened m) opened)
          [ inl new ↦ absurd (omega (arith, one_kind string new.bytes bytes OPENED CHANGED new.is says)) | inr old ↦ told.numbers m old ];
      newest = elim told.newest [ inl none ↦ inl none | inr old ↦ inr (before (Opened number) old) ];
    }

  module _ (first old new : Replica) (joined : HasJoined strings first old) where
    pub joined_delta : (d : MapState) → SaysDelta string d → new ≡ joins old d → HasJoined (strings ++ string ∷ []) first new
    joined_delta d says is =
        let live : new.live ≡ join greater old.live d = ap (λ (r : Replica). r.live) is in
        let up : IsBelow old.live new.live = subst (IsBelow old.live) (sym live) (below_join old.live d) in
        record {
          grows = below_below first.live old.live new.live joined.grows up;
          above = λ e changed. elim (either (Changed e) changed) [
            | inl this ↦ subst (λ x. IsBelow x new.live) (one_state string d e says this) (subst (IsBelow d) (sym live) (below_other old.live d))
            | inr there ↦ below_below e old.live new.live (joined.above e there) up
          ];
          least = λ p below all. subst (λ x. IsBelow x p) (sym live)
              (join_below old.live d p (joined.least p below (λ e there. all e (before (Changed e) there))) (all d (last (Changed d) says)));
          rest = is ∙ (λ i. record (joined.rest i) { live = sym live i });
        }

    pub joined_none : ((d : MapState) → ¬ SaysDelta string d) → new ≡ old → HasJoined (strings ++ string ∷ []) first new
    joined_none none is =
        let live : new.live ≡ old.live = ap (λ (r : Replica). r.live) is in
        record {
          grows = subst (IsBelow first.live) (sym live) joined.grows;
          above = λ e changed. elim (either (Changed e) changed)
              [ inl this ↦ absurd (none e this) | inr there ↦ subst (IsBelow e) (sym live) (joined.above e there) ];
          least = λ p below all. subst (λ x. IsBelow x p) (sym live) (joined.least p below (λ e there. all e (before (Changed e) there)));
          rest = is ∙ joined.rest ∙ (λ i. record first { live = sym live i });
        }

pub none_joined : (r : Replica) → HasJoined [] r r
none_joined r = record { grows = below_itself r.live; above = λ d says. nothing_in says.0 says.1; least = λ p below all. below; rest = refl }
