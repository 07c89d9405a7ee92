-- A join that changes the store of one key alone.
use Rattle.std.proofs.Common.{◌≡◌, Bool, true, false, List, Option, Some, None, refl, sym, ap, ◌∙◌, subst}
use Rattle.std.specs.Prelude.{IsSome, IsTrue, OnOk}
use Rattle.std.specs.declared.cmp.Ordering.{Ordering}
use Rattle.std.specs.declared.result.Result.{Result}
use Rattle.std.proofs.Common.{Ok, Err}
use Rattle.std.specs.Ordering.{is_eq}
use Rattle.std.specs.List.{All}
use Rattle.std.specs.Map.{lookup}
use Rattle.std.specs.BTreeMap.{is_at}
use Rattle.std.proofs.lemmas.List.Elements.{All-contains}
use Rattle.std.proofs.lemmas.Map.Lookups.{CmpEqualImpliesEq}
use Rattle.dots.specs.Dot.{DotValue}
use Rattle.op_model.specs.State.{joined}
use Rattle.ordered_list.specs.Places.{value_at}
use Rattle.ordered_list.proofs.Places.{entry_found}
use Rattle.ordered_list.proofs.Walked.{same_key}
use Rattle.dot_store.specs.Store.{HasEachKnown, HoldsSame}
use Rattle.dot_store.specs.Stores.{at_stores, held_by, joined_store, IsOnlyKey}

-- what the other side does not know and does not hold stays
kept_as_it_is : {H : Type 0} (greater : H → H → H) (x : Option H) (own theirs : Bool) → (IsSome x → IsTrue theirs → x ≡ None)
    → x ≡ joined greater x own None theirs
kept_as_it_is greater None own theirs gone = refl
kept_as_it_is greater (Some v) own true gone = absurd (cc (gone refl refl))
kept_as_it_is greater (Some v) own false gone = refl

module _ {K S P H : Type 0} (at : S → P → DotValue → Option H) (cmp : K → K → Ordering) (exact : CmpEqualImpliesEq cmp) where
  -- where no other store holds one of these dots, and the other side has none at another key, that key is the only one
  pub only_from : (mine yours : List (K × S)) (dots : List DotValue) (key : K) → ((q : K) → is_eq (cmp key q) ≡ false → lookup (is_at (cmp q)) yours ≡ None)
      → All (λ e. is_eq (cmp key e.0) ≡ false → All (λ d. (place : P) → at e.1 place d ≡ None) dots) mine → IsOnlyKey at cmp mine yours dots key
  only_from mine yours dots key none all = record {
    yours_none = none;
    mine_apart = λ q store apart there place d has.
        let found = entry_found (λ e. is_eq (cmp key e.0) ≡ false → All (λ d. (place : P) → at e.1 place d ≡ None) dots) (is_at (cmp q)) mine store all there in
        let same = same_key cmp exact q found.0 found.1 in
        All-contains (λ x. (p : P) → at store p x ≡ None) dots d (found.2 (subst (λ k. is_eq (cmp key k) ≡ false) same apart)) has place;
  }

  -- what is joined at that key is joined at each
  pub joined_by_key : (greater : H → H → H) (mine yours new : List (K × S)) (own theirs : DotValue → Bool) (dots : List DotValue) (key : K)
      → HasEachKnown (at_stores at cmp mine) theirs dots → IsOnlyKey at cmp mine yours dots key
      → HoldsSame (held_by at (value_at cmp new key)) (joined_store at greater (value_at cmp mine key) own (value_at cmp yours key) theirs)
      → ((q : K) → is_eq (cmp key q) ≡ false → value_at cmp new q ≡ value_at cmp mine q)
      → (q : K) → HoldsSame (held_by at (value_at cmp new q)) (joined_store at greater (value_at cmp mine q) own (value_at cmp yours q) theirs)
  unfolding at_stores
  joined_by_key greater mine yours new own theirs dots key each only here apart q = by (is_eq (cmp key q)) refl
    where
      kept : is_eq (cmp key q) ≡ false → (o : Option S) → value_at cmp mine q ≡ o → (place : P) (d : DotValue)
          → held_by at o place d ≡ joined greater (held_by at o place d) (own d) None (theirs d)
      kept apart_here None is place d = refl
      kept apart_here (Some s) is place d =
          kept_as_it_is greater (at s place d) (own d) (theirs d)
          (λ some known. only.mine_apart q s apart_here is place d (each (q, place) d (subst (λ o. IsSome (held_by at o place d)) (sym is) some) known))

      by : (b : Bool) → is_eq (cmp key q) ≡ b → HoldsSame (held_by at (value_at cmp new q))
          (joined_store at greater (value_at cmp mine q) own (value_at cmp yours q) theirs)
      by true tied =
          subst (λ k. HoldsSame (held_by at (value_at cmp new k)) (joined_store at greater (value_at cmp mine k) own (value_at cmp yours k) theirs))
          (same_key cmp exact key q tied) here
      by false differs = λ place d.
          ap (λ o. held_by at o place d) (apart q differs) ∙ kept differs (value_at cmp mine q) refl place d
          ∙ sym (ap (λ o. joined greater (held_by at (value_at cmp mine q) place d) (own d) (held_by at o place d) (theirs d)) (only.yours_none q differs))

-- two facts of a call that went well give a third
pub both_so : {T E P Q R : Type 0} (r : Result T E) → (P → Q → R) → OnOk r P → OnOk r Q → OnOk r R
both_so (Ok x) f p q = f p q
both_so (Err x) f p q = tt
