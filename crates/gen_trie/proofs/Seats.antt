-- Where a child stands, over plain lists of slots.
use Rattle.std.proofs.Common.{◌≡◌, ℕ, ◌<◌, ◌≤◌, ◌%◌, ◌^◌, List, [], length, get_or, Bool, true, false, nat_eq, nat_lt, arith, sym, ◌∙◌, ap, subst, ltb-true}
use Rattle.std.proofs.Common.{ltb-false}
use Rattle.std.specs.Prelude.{count_ones}
use Rattle.std.proofs.Math.ListN.{get_or-map, length-map}
use Rattle.hash_path.specs.Fan.{at, place, there}
use Rattle.hash_path.proofs.Places.{position_is, place_le, test_some, test_none, there_at, at_absent}
use Rattle.gen_trie.specs.declared.node.Slot.{Slot}
use Rattle.gen_trie.specs.Shapes.{children, child, StandsBelow, IsBranch, IsSeat}

module _ {V M A : Type 0} (below : ℕ) (ss : List (Slot V M A)) where
  pub some_there : (i n r : ℕ) (s : Slot V M A) (items : List (Slot V M A)) → items ≡ ss → true ≡ nat_lt n (length items) → s ≡ get_or items n s
      → r ≡ (child below s).0 → n ≡ place i (children below ss) → nat_eq r i ≡ there i (children below ss)
  some_there i n r s items q lt e is p =
      let here : s ≡ get_or ss n s = e ∙ ap (λ l. get_or l n s) q in
      let within : n < length ss = ltb-true n (length ss) (ap (λ l. nat_lt n (length l)) (sym q) ∙ sym lt) in
      let inside : place i (children below ss) < length (children below ss) =
      subst (λ k. k < length (children below ss)) p (subst (λ k. n < k) (sym (length-map ss (child below))) within) in
      let seen : child below s ≡ get_or (children below ss) (place i (children below ss)) (child below s) =
      subst (λ k. child below s ≡ get_or (children below ss) k (child below s)) p (ap (child below) here ∙ sym (get_or-map (child below) ss n s)) in
      ap (λ k. nat_eq k i) is ∙ test_some i (child below s) (children below ss) inside seen

  pub none_there : (i n : ℕ) (items : List (Slot V M A)) → items ≡ ss → false ≡ nat_lt n (length items) → n ≡ place i (children below ss)
      → false ≡ there i (children below ss)
  none_there i n items q lt p =
      let past : length ss ≤ n = ltb-false n (length ss) (ap (λ l. nat_lt n (length l)) (sym q) ∙ sym lt) in
      let beyond : length (children below ss) ≤ place i (children below ss) =
      subst (λ k. length (children below ss) ≤ k) p (subst (λ k. k ≤ n) (sym (length-map ss (child below))) past) in
      sym (test_none i (children below ss) beyond)

  pub seat_is : (m i j n : ℕ) (count : ℕ) (t : Bool) → IsBranch below m ss → count ≡ length ss → j ≡ i → j < 32 → n ≡ count_ones (m % 2 ^ j)
      → (n ≡ place j (children below ss) → t ≡ there j (children below ss)) → IsSeat i (children below ss) count j n t
  seat_is m i j n count t b c e l p is =
      let placed : n ≡ place j (children below ss) = p ∙ ap (λ k. count_ones (k % 2 ^ j)) b.bitmap_is ∙ position_is 0 j (children below ss) b.rise in
      let room : place j (children below ss) ≤ length ss = subst (λ k. place j (children below ss) ≤ k) (length-map ss (child below))
      (place_le j (children below ss)) in
      record {
        index_is = e;
        bound = subst (λ k. k < 32) e l;
        position_is = subst (λ k. n ≡ place k (children below ss)) e placed;
        taken_is = subst (λ k. t ≡ there k (children below ss)) e (is placed);
        room = omega arith;
        within = λ h.
            let inside = (there_at j (0, []) (children below ss) (sym (is placed) ∙ h)).0 in
            let less = subst (λ k. place j (children below ss) < k) (length-map ss (child below)) inside in
            omega arith;
      }

  pub found : (m i count j n : ℕ) (t : Bool) (s : Slot V M A) → IsBranch below m ss → IsSeat i (children below ss) count j n t → count ≡ length ss → t ≡ true
      → s ≡ get_or ss n s
      → (child below s ≡ (i, at i (children below ss))) × StandsBelow below s
  found m i count j n t s b seat c h e =
      let inside = there_at i (child below s) (children below ss) (sym seat.taken_is ∙ h) in
      let here : child below s ≡ get_or (children below ss) (place i (children below ss)) (child below s) =
      subst (λ k. child below s ≡ get_or (children below ss) k (child below s)) seat.position_is (ap (child below) e ∙ sym (get_or-map (child below) ss n s)) in
      let first = ap (λ x. x.0) here ∙ inside.1 in
      let second = ap (λ x. x.1) here ∙ inside.2 in
      let within = seat.within h in
      let less : n < length ss = omega arith in
      (λ t. (first t, second t), subst (StandsBelow below) (sym e) (b.fits n s less))

pub none_at : {V : Type 0} (i count j n : ℕ) (t : Bool) (cs : List (ℕ × List (List ℕ × V))) → IsSeat i cs count j n t → t ≡ false → at i cs ≡ []
none_at i count j n t cs seat h = at_absent i cs (sym seat.taken_is ∙ h)
