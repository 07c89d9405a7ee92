-- The loops over a page: what was made comes before what is made of the rest.
use Rattle.std.proofs.Common.{◌≡◌, ℕ, zero, suc, ◌+◌, ◌<◌, ◌≤◌, List, [], ◌∷◌, ◌++◌, length, drop, get_or, Bool, true, false, Some, None, arith, refl, sym, ◌∙◌}
use Rattle.std.proofs.Common.{ap, subst, append_assoc, append-nil}
use Rattle.std.proofs.lemmas.List.{drop_more}
use Rattle.sync_model.specs.Filled.{Made, made_map}
use Rattle.page_fetching.specs.Adding.{AddsPart}

module _ {X : Type 0} where
  none_before : (m : Made (List X)) → m ≡ made_map (λ xs. [] ++ xs) m
  none_before None = refl
  none_before (Some m) = refl

  further : (old more : List X) (m : Made (List X)) → made_map (λ xs. old ++ xs) (made_map (λ xs. more ++ xs) m) ≡ made_map (λ xs. (old ++ more) ++ xs) m
  further old more None = refl
  further old more (Some m) = ap (λ l. Some (l, m.1)) (sym (append_assoc old more m.0))

-- the loop stands at an item, or past the last one
module _ {N : Type 0} where
  pub stands_at : (ns : List N) (i : ℕ) (n : N) → i < length ns → n ≡ get_or ns i n → drop i ns ≡ n ∷ drop (i + 1) ns
  stands_at ns i n within is = drop_more ns i n within ∙ ap (λ x. x ∷ drop (i + 1) ns) (sym is)

  pub is_past : (ns : List N) (i : ℕ) → length ns ≤ i → drop i ns ≡ []
  is_past [] zero past = refl
  is_past [] (suc i) past = refl
  is_past (n ∷ ns) zero past = absurd (omega (arith, past))
  is_past (n ∷ ns) (suc i) past = is_past ns i (omega (arith, past))

module _ {N X : Type 0} (fill : List N → List (List ℕ) → Made (List X)) (part : N → List (List ℕ) → (List (List ℕ) → Made (List X)) → Made (List X))
    (by_part : (n : N) (ns : List N) (sent : List (List ℕ)) → fill (n ∷ ns) sent ≡ part n sent (fill ns)) where
  -- at the start nothing is made
  pub starts : (ns names : List N) (made : List X) (sent : List (List ℕ)) → made ≡ [] → ns ≡ names
      → fill names sent ≡ made_map (λ xs. made ++ xs) (fill (drop 0 ns) sent)
  starts ns names made sent none same = none_before (fill names sent) ∙ (λ i. made_map (λ xs. sym none i ++ xs) (fill (sym same i) sent))

  -- one part more is as it should be
  part_more : (all : Made (List X)) (old new : List X) (left right : List N) (n : N) (sent rest : List (List ℕ))
      → all ≡ made_map (λ xs. old ++ xs) (fill left sent) → left ≡ n ∷ right → AddsPart true old new (part n sent) rest
      → all ≡ made_map (λ xs. new ++ xs) (fill right rest)
  part_more all old new left right n sent rest before is (more, put, made) =
      before ∙ ap (λ ns. made_map (λ xs. old ++ xs) (fill ns sent)) is ∙ ap (made_map (λ xs. old ++ xs)) (by_part n right sent ∙ made (fill right))
      ∙ further old more (fill right rest) ∙ ap (λ l. made_map (λ xs. l ++ xs) (fill right rest)) (sym put)

  -- or it is not
  part_wrong : (all : Made (List X)) (old new : List X) (left right : List N) (n : N) (sent rest : List (List ℕ))
      → all ≡ made_map (λ xs. old ++ xs) (fill left sent) → left ≡ n ∷ right → AddsPart false old new (part n sent) rest → all ≡ None
  part_wrong all old new left right n sent rest before is wrong =
      before ∙ ap (λ ns. made_map (λ xs. old ++ xs) (fill ns sent)) is ∙ ap (made_map (λ xs. old ++ xs)) (by_part n right sent ∙ wrong (fill right))

  -- and there is none left
  pub all_made : (all : Made (List X)) (made : List X) (left : List N) (sent : List (List ℕ)) → fill [] sent ≡ Some ([], sent)
      → all ≡ made_map (λ xs. made ++ xs) (fill left sent) → left ≡ [] → all ≡ Some (made, sent)
  all_made all made left sent end before is =
      before ∙ ap (λ ns. made_map (λ xs. made ++ xs) (fill ns sent)) is ∙ ap (made_map (λ xs. made ++ xs)) end ∙ ap (λ l. Some (l, sent)) (append-nil made)

  -- the same where the loop stands at the part
  pub one_more : (all : Made (List X)) (old new : List X) (ns : List N) (i : ℕ) (n : N) (sent rest : List (List ℕ)) (right : Bool)
      → all ≡ made_map (λ xs. old ++ xs) (fill (drop i ns) sent) → i < length ns → n ≡ get_or ns i n → right ≡ true → AddsPart right old new (part n sent) rest
      → all ≡ made_map (λ xs. new ++ xs) (fill (drop (i + 1) ns) rest)
  one_more all old new ns i n sent rest right before within is is_right adds =
      part_more all old new (drop i ns) (drop (i + 1) ns) n sent rest before (stands_at ns i n within is)
      (subst (λ b. AddsPart b old new (part n sent) rest) is_right adds)

  pub one_wrong : (all : Made (List X)) (old new : List X) (ns : List N) (i : ℕ) (n : N) (sent rest : List (List ℕ)) (right : Bool)
      → all ≡ made_map (λ xs. old ++ xs) (fill (drop i ns) sent) → i < length ns → n ≡ get_or ns i n → right ≡ false → AddsPart right old new (part n sent) rest
      → all ≡ None
  one_wrong all old new ns i n sent rest right before within is is_wrong adds =
      part_wrong all old new (drop i ns) (drop (i + 1) ns) n sent rest before (stands_at ns i n within is)
      (subst (λ b. AddsPart b old new (part n sent) rest) is_wrong adds)

  pub all_past : (all : Made (List X)) (made : List X) (ns : List N) (i : ℕ) (sent : List (List ℕ)) → fill [] sent ≡ Some ([], sent)
      → all ≡ made_map (λ xs. made ++ xs) (fill (drop i ns) sent) → length ns ≤ i → all ≡ Some (made, sent)
  all_past all made ns i sent end before past = all_made all made (drop i ns) sent end before (is_past ns i past)
