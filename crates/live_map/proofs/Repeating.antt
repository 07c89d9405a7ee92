-- The join of a delta that knows known dots alone, at the one key that it can change: over plain variables.
use Rattle.std.proofs.Common.{◌≡◌, List, [], ◌∷◌, ℕ, Bool, true, false, Option, refl, sym, subst}
use Rattle.std.specs.Prelude.{IsTrue, IsSome, ◌||◌}
use Rattle.dots.specs.Dot.{DotValue}
use Rattle.dot_store.specs.Store.{HoldsSame, state_with}
use Rattle.op_model.specs.State.{join, IsInside}
use Rattle.trie_map.specs.Keyed.{TrieMapValue, at_keys}
use Rattle.trie_map.specs.Here.{Writes}
use Rattle.live_map.specs.Index.{PlaceValue, names, IsIndexed}
use Rattle.live_map.specs.OneKey.{HasNoOther, IsAgainAt, IsMadeAt}
use Rattle.live_map.proofs.Changing.{all_touched, indexed_join}
use Rattle.live_map.proofs.NewKey.{inside_joined, only_key, the_key}
use Rattle.live_map.proofs.OneKey.{made_written}

pub again_at : {P H : Type 0} (places : List PlaceValue) (own : DotValue → Bool) (yours : List ℕ × P → DotValue → Option H) (theirs : DotValue → Bool)
    (dot : DotValue) (key : List ℕ) → HasNoOther theirs dot → IsTrue (own dot)
    → ((q : List ℕ) → IsTrue (names places dot q) → q ≡ key) → ((q : List ℕ) (place : P) (d : DotValue) → IsSome (yours (q, place) d) → q ≡ key)
    → IsAgainAt places own yours theirs key
again_at places own yours theirs dot key one mine only at_key = record {
  known = λ d t. subst (λ x. IsTrue (own x)) (sym (one d t)) mine;
  touched = record {
    held = λ q place d h. the_key key q (at_key q place d h);
    named = λ d q named o t. the_key key q (only q (subst (λ x. IsTrue (names places x q)) (one d t) named));
  };
}

or_known : (b c : Bool) → (IsTrue c → IsTrue b) → b ≡ b || c
or_known true c there = refl
or_known false true there = absurd (cc (there refl))
or_known false false there = refl

module _ {S P H Hash : Type 0} (at : S → P → DotValue → Option H) (greater : H → H → H) (mine : TrieMapValue Hash S) (own : DotValue → Bool)
    (yours : List ℕ × P → DotValue → Option H) (theirs : DotValue → Bool) (places : List PlaceValue) (key : List ℕ)
    (again : IsAgainAt places own yours theirs key) where
  pub again_known : (d : DotValue) → own d ≡ own d || theirs d
  again_known d = or_known (own d) (theirs d) (again.known d)

  module _ (inside : IsInside (state_with (at_keys at mine) own)) (indexed : IsIndexed (at_keys at mine) places) (new : TrieMapValue Hash S) where
    pub again_joined : (made : Option S) → IsMadeAt at greater mine.1 key own yours theirs made → Writes at mine.1 new.1 key made
        → HoldsSame (at_keys at new) (join greater (state_with (at_keys at mine) own) (state_with yours theirs)).at
    again_joined made is written =
        made_written at greater mine own yours theirs (key ∷ []) key (all_touched (at_keys at mine) yours own theirs places (key ∷ []) inside indexed again.touched)
        (only_key key) new made is written

    module _ (within : IsInside (state_with yours theirs))
        (same : HoldsSame (at_keys at new) (join greater (state_with (at_keys at mine) own) (state_with yours theirs)).at) where
      pub again_inside : IsInside (state_with (at_keys at new) own)
      again_inside = inside_joined greater (at_keys at mine) yours (at_keys at new) own theirs own same inside within again_known

      pub again_indexed : IsIndexed (at_keys at new) places
      again_indexed =
          indexed_join greater (at_keys at mine) yours (at_keys at new) own theirs places same indexed
          (λ q place d h fresh. absurd (cc (again.known d (within (q, place) d h), fresh)))
