-- A walk over two lists of entries, key by key of either, and what holds of the keys that it has passed.
use Rattle.std.proofs.Common.{◌≡◌, Bool, true, false, ◌||◌, cond, List, [], Option, Some, None, refl, sym, ap, ◌∙◌, subst, inl, inr, ⊎_elim}
use Rattle.std.specs.Prelude.{◌⊎◌, IsTrue, is_some}
use Rattle.std.specs.Option.{option_or}
use Rattle.std.specs.declared.cmp.Ordering.{Ordering}
use Rattle.std.specs.declared.cmp.Ordering.TheVariants.{Less, Equal, Greater}
use Rattle.std.specs.Ordering.{is_eq}
use Rattle.std.specs.Cmp.{IsTotalOrder}
use Rattle.std.proofs.lemmas.Cmp.{tied_itself}
use Rattle.std.proofs.lemmas.Map.Lookups.{CmpEqualImpliesEq}
use Rattle.ordered_list.specs.Places.{value_at}
use Rattle.ordered_list.specs.Merged.{IsTurn}

equal_from_test : (o : Ordering) → is_eq o ≡ true → o ≡ Equal
equal_from_test Less h = absurd (cc h)
equal_from_test Equal h = refl
equal_from_test Greater h = absurd (cc h)

pub same_key : {K : Type 0} (cmp : K → K → Ordering) → CmpEqualImpliesEq cmp → (x y : K) → is_eq (cmp x y) ≡ true → x ≡ y
same_key cmp exact x y h = exact x y (equal_from_test (cmp x y) h)

module _ {K V : Type 0} (cmp : K → K → Ordering) (mine yours : List (K × V)) where
  -- Each key is still ahead, where the rests have what the lists have, or was passed, where the rests have
  -- nothing. Of a key that is ahead `Todo` holds, and of one that was passed `Done`.
  abbrev pub Walked : (Todo Done : K → Type 0) (my_rest your_rest : List (K × V)) → Type 0
  Walked Todo Done my_rest your_rest =
      (q : K) → ((value_at cmp my_rest q ≡ value_at cmp mine q) × (value_at cmp your_rest q ≡ value_at cmp yours q) × Todo q)
      ⊎ ((value_at cmp my_rest q ≡ None) × (value_at cmp your_rest q ≡ None) × Done q)

  nowhere : (x y : Option V) → x ≡ None → y ≡ None → IsTrue (is_some x || is_some y) → ⊥
  nowhere x y e f h = let bad : false ≡ true = rw (e, f) at h in absurd (cc bad)

  -- the key of a turn was ahead
  pub walked_here : (Todo Done : K → Type 0) (my_rest your_rest my_next your_next : List (K × V)) (key : K) (x y : Option V)
      → Walked Todo Done my_rest your_rest → IsTurn cmp my_rest your_rest my_next your_next key x y
      → (value_at cmp mine key ≡ x) × (value_at cmp yours key ≡ y) × Todo key
  walked_here Todo Done my_rest your_rest my_next your_next key x y walked turn =
      ⊎_elim (λ ahead. (sym ahead.0 ∙ turn.mine_at, sym ahead.1 ∙ turn.yours_at, ahead.2))
      (λ passed. absurd (nowhere x y (sym turn.mine_at ∙ passed.0) (sym turn.yours_at ∙ passed.1) turn.somewhere)) (walked key)

  module _ (exact : CmpEqualImpliesEq cmp) where
    more_by : (Todo Done Todo' Done' : K → Type 0) (my_rest your_rest my_next your_next : List (K × V)) (key q : K) (b : Bool) → is_eq (cmp key q) ≡ b
        → value_at cmp my_next q ≡ cond b None (value_at cmp my_rest q) → value_at cmp your_next q ≡ cond b None (value_at cmp your_rest q)
        → ((value_at cmp my_rest q ≡ value_at cmp mine q) × (value_at cmp your_rest q ≡ value_at cmp yours q) × Todo q)
        ⊎ ((value_at cmp my_rest q ≡ None) × (value_at cmp your_rest q ≡ None) × Done q)
        → Done' key → (b ≡ false → Todo q → Todo' q) → (b ≡ false → Done q → Done' q)
        → ((value_at cmp my_next q ≡ value_at cmp mine q) × (value_at cmp your_next q ≡ value_at cmp yours q) × Todo' q)
        ⊎ ((value_at cmp my_next q ≡ None) × (value_at cmp your_next q ≡ None) × Done' q)
    more_by Todo Done Todo' Done' my_rest your_rest my_next your_next key q true same e f walked done todo kept =
        inr (e, f, subst Done' (same_key cmp exact key q same) done)
    more_by Todo Done Todo' Done' my_rest your_rest my_next your_next key q false same e f walked done todo kept =
        ⊎_elim (λ ahead. inl (e ∙ ahead.0, f ∙ ahead.1, todo refl ahead.2)) (λ passed. inr (e ∙ passed.0, f ∙ passed.1, kept refl passed.2)) walked

    -- one more turn
    pub walked_more : (Todo Done Todo' Done' : K → Type 0) (my_rest your_rest my_next your_next : List (K × V)) (key : K) (x y : Option V)
        → Walked Todo Done my_rest your_rest → IsTurn cmp my_rest your_rest my_next your_next key x y
        → Done' key → ((q : K) → is_eq (cmp key q) ≡ false → Todo q → Todo' q) → ((q : K) → is_eq (cmp key q) ≡ false → Done q → Done' q)
        → Walked Todo' Done' my_next your_next
    walked_more Todo Done Todo' Done' my_rest your_rest my_next your_next key x y walked turn done todo kept q =
        more_by Todo Done Todo' Done' my_rest your_rest my_next your_next key q (is_eq (cmp key q)) refl (turn.mine_past q) (turn.yours_past q) (walked q) done
        (todo q) (kept q)

  -- at the end each key was passed, or neither list has it
  pub walked_all : (Todo Done : K → Type 0) (rests : List (K × V) × List (K × V)) → Walked Todo Done rests.0 rests.1 → rests ≡ ([], []) → (q : K)
      → (value_at cmp mine q ≡ None → value_at cmp yours q ≡ None → Todo q → Done q) → Done q
  walked_all Todo Done rests walked end q nothing =
      let none : value_at cmp rests.0 q ≡ None = ap (λ r. value_at cmp r.0 q) end in
      let none' : value_at cmp rests.1 q ≡ None = ap (λ r. value_at cmp r.1 q) end in
      ⊎_elim (λ ahead. nothing (sym ahead.0 ∙ none) (sym ahead.1 ∙ none') ahead.2) (λ passed. passed.2) (walked q)

-- ---- where a value, if there is one, is put at a key that had none
module _ {K V : Type 0} (cmp : K → K → Ordering) (key : K) (value : Option V) (old new : K → Option V)
    (updates : (q : K) → new q ≡ cond (is_eq (cmp key q)) (option_or value (old q)) (old q)) where
  or_none : (o : Option V) → option_or o None ≡ o
  or_none None = refl
  or_none (Some v) = refl

  pub put_here : IsTotalOrder cmp → old key ≡ None → new key ≡ value
  put_here total none = updates key ∙ rw (tied_itself total key, none) (or_none value)

  pub put_apart : (q : K) → is_eq (cmp key q) ≡ false → new q ≡ old q
  put_apart q h = updates q ∙ rw h refl
