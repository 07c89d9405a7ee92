-- The page at a prefix, by the part of the walk there.
use Rattle.std.proofs.Common.{◌≡◌, ◌⊎◌, ⊎_elim, ℕ, zero, suc, ◌+◌, ◌-◌, ◌^◌, ◌<◌, ◌≤◌, List, [], ◌∷◌, ◌++◌, length, Some, None, refl, sym, ap, ◌∙◌, subst}
use Rattle.std.proofs.Common.{arith}
use Rattle.std.specs.declared.option.Option.{Option}
use Rattle.std.specs.Option.{option_map}
use Rattle.std.specs.FinMap as finite
use Rattle.std.proofs.lemmas.List.{length-map}
use Rattle.dots.specs.Bytes.{bytes_cmp}
use Rattle.causal_join.specs.OrMap.{FieldsValue}
use Rattle.wire_form.specs.Page.{EntryValue, OneKey, Keys, Branch}
use Rattle.hash_path.specs.Path.{last_index}
use Rattle.hash_path.specs.Word.{key_in}
use Rattle.hash_path.specs.Map.{by_key, by_path, walk_under}
use Rattle.hash_path.specs.Summary.{under_index, under_prefix, one_present, present}
use Rattle.hash_path.proofs.Parts.{HashedBy-by_path, walk_part}
use Rattle.hash_path.proofs.Bounds.{none_past}
use Rattle.prefix_digest.specs.Page.{named_entry, named_entries, digest_of, page, page_under, page_at, digest_at}
use Rattle.prefix_digest.proofs.Digests.{keyed_named, index_named, prefix_named}

-- ---- children that are present, one after another

module _ {M : Type 0} where
  behind : (i : ℕ) (o : Option M) (xs ys : List (ℕ × M)) → one_present i o (xs ++ ys) ≡ one_present i o xs ++ ys
  behind i None xs ys = refl
  behind i (Some m) xs ys = refl

  present_more : (i n k : ℕ) (f : ℕ → Option M) → k ≡ i + n → present i (suc n) f ≡ present i n f ++ one_present k (f k) []
  present_more i zero k f e =
      let same : i ≡ k = omega (arith, e) in
      ap (λ j. one_present j (f j) []) same
  present_more i (suc n) k f e =
      ap (one_present i (f i)) (present_more (suc i) n k f (omega (arith, e))) ∙ behind i (f i) (present (suc i) n f) (one_present k (f k) [])

  pub present_next : (n : ℕ) (f : ℕ → Option M) (old new : List (ℕ × M)) (o : Option M) → old ≡ present 0 n f → o ≡ f n → new ≡ old ++ one_present n o []
      → new ≡ present 0 (n + 1) f
  present_next n f old new o was is now =
      let next : suc n ≡ n + 1 = omega arith in
      now ∙ (λ t. was t ++ one_present n (is t) []) ∙ sym (present_more 0 n n f (omega arith)) ∙ ap (λ k. present 0 k f) next

  present_same : (i n : ℕ) (f g : ℕ → Option M) → ((j : ℕ) → f j ≡ g j) → present i n f ≡ present i n g
  present_same i n f g h = λ t. present i n (λ j. h j t)

-- ---- the page at a prefix is that of the entries there

page_there : (p : List ℕ) (height : ℕ) (es : List EntryValue) → length p ≤ height → page_under p height es ≡ page (height - length p) (under_prefix p es)
page_there [] height es h = let same : height ≡ height - 0 = omega arith in ap (λ k. page k es) same
page_there (i ∷ p) zero es h = absurd (omega (arith, h))
page_there (i ∷ p) (suc below) es h =
    let same : below - length p ≡ suc below - suc (length p) = omega arith in
    page_there p below (under_index i es) (omega (arith, h)) ∙ ap (λ k. page k (under_prefix p (under_index i es))) same

page_further : (p : List ℕ) (i height : ℕ) (es : List EntryValue) → length p < height
    → page_under (p ++ i ∷ []) height es ≡ page (height - suc (length p)) (under_index i (under_prefix p es))
page_further [] i zero es h = absurd (omega (arith, h))
page_further [] i (suc below) es h = let same : below ≡ suc below - 1 = omega arith in ap (λ k. page k (under_index i es)) same
page_further (j ∷ p) i zero es h = absurd (omega (arith, h))
page_further (j ∷ p) i (suc below) es h =
    let same : below - suc (length p) ≡ suc below - suc (suc (length p)) = omega arith in
    page_further p i below (under_index j es) (omega (arith, h)) ∙ ap (λ k. page k (under_index i (under_prefix p (under_index j es)))) same

-- ---- by how many entries there are

pub no_entries : {V : Type 0} (height : ℕ) (es : List (List ℕ × V)) → by_key height es ≡ [] → es ≡ []
no_entries height [] e = refl
no_entries height (x ∷ es) e = let long : suc (length (by_key height es)) ≡ 0 = ap length e in absurd (omega (arith, long))

one_entry : (height : ℕ) (es : List (List ℕ × FieldsValue)) (k : List ℕ) (fields : FieldsValue) → by_key height es ≡ (k, fields) ∷ []
    → page height (named_entries es) ≡ Some (OneKey (named_entry (k, fields)))
one_entry height [] k fields e = let long : 0 ≡ 1 = ap length e in absurd (omega (arith, long))
one_entry height (x ∷ []) k fields e =
    ap (λ l. Some (OneKey (head l))) e
  where
    head : List (List ℕ × FieldsValue) → EntryValue
    head [] = ([], [])
    head (y ∷ ys) = named_entry y
one_entry height (x ∷ y ∷ es) k fields e = let long : suc (suc (length (by_key height es))) ≡ 1 = ap length e in absurd (omega (arith, long))

several_listed : (es : List EntryValue) → 2 ≤ length es → page 0 es ≡ Some (Keys (by_key 0 es))
several_listed [] h = absurd (omega (arith, h))
several_listed (x ∷ []) h = absurd (omega (arith, h))
several_listed (x ∷ y ∷ es) h = refl

several_parted : (below : ℕ) (es : List EntryValue) → 2 ≤ length es → page (suc below) es
    ≡ Some (Branch (present 0 32 (λ i. option_map digest_of (page below (under_index i es)))))
several_parted below [] h = absurd (omega (arith, h))
several_parted below (x ∷ []) h = absurd (omega (arith, h))
several_parted below (x ∷ y ∷ es) h = refl

module _ (f : List ℕ → ℕ) (m : finite.FinMap bytes_cmp FieldsValue) (p : List ℕ) where
  at_there : length p ≤ 7 → page_at f m p ≡ page (7 - length p) (named_entries (under_prefix p (by_path f m)))
  at_there short = page_there p 7 (named_entries (by_path f m)) short ∙ ap (page (7 - length p)) (prefix_named p (by_path f m))

  as_long : length p ≤ 7 → length (walk_under f p m) ≡ length (named_entries (under_prefix p (by_path f m)))
  as_long short =
      ap length (walk_part f p m short) ∙ length-map (under_prefix p (by_path f m)) (λ e. (key_in (7 - length p) e.0, e.1))
      ∙ sym (length-map (under_prefix p (by_path f m)) named_entry)

  pub page_none : length p ≤ 7 → walk_under f p m ≡ [] → page_at f m p ≡ None
  page_none short none =
      at_there short ∙ ap (λ es. page (7 - length p) (named_entries es))
      (no_entries (7 - length p) (under_prefix p (by_path f m)) (sym (walk_part f p m short) ∙ none))

  pub page_one : (k : List ℕ) (fields : FieldsValue) → length p ≤ 7 → walk_under f p m ≡ (k, fields) ∷ []
      → page_at f m p ≡ Some (OneKey (named_entry (k, fields)))
  page_one k fields short one = at_there short ∙ one_entry (7 - length p) (under_prefix p (by_path f m)) k fields (sym (walk_part f p m short) ∙ one)

  pub page_list : length p ≡ 7 → 2 ≤ length (walk_under f p m) → page_at f m p ≡ Some (Keys (named_entries (walk_under f p m)))
  page_list deep several =
      let short : length p ≤ 7 = omega (arith, deep) in
      let low : 7 - length p ≡ 0 = omega (arith, deep) in
      let es = under_prefix p (by_path f m) in
      at_there short ∙ ap (λ k. page k (named_entries es)) low
      ∙ several_listed (named_entries es) (subst (λ n. 2 ≤ n) (as_long short) several)
      ∙ ap (λ l. Some (Keys l)) (keyed_named 0 es ∙ ap named_entries (ap (λ k. by_key k es) (sym low) ∙ sym (walk_part f p m short)))

  further : (i : ℕ) → length p < 7 → page_at f m (p ++ i ∷ []) ≡ page (7 - suc (length p)) (named_entries (under_index i (under_prefix p (by_path f m))))
  further i less =
      page_further p i 7 (named_entries (by_path f m)) less
      ∙ ap (page (7 - suc (length p))) (ap (under_index i) (prefix_named p (by_path f m)) ∙ index_named i (under_prefix p (by_path f m)))

  pub page_branch : length p < 7 → 2 ≤ length (walk_under f p m) → page_at f m p ≡ Some (Branch (present 0 32 (λ i. digest_at f m (p ++ i ∷ []))))
  page_branch less several =
      let short : length p ≤ 7 = omega (arith, less) in
      let next : 7 - length p ≡ suc (7 - suc (length p)) = omega (arith, less) in
      let es = under_prefix p (by_path f m) in
      at_there short ∙ ap (λ k. page k (named_entries es)) next
      ∙ several_parted (7 - suc (length p)) (named_entries es) (subst (λ n. 2 ≤ n) (as_long short) several)
      ∙ ap (λ l. Some (Branch l)) (present_same 0 32 (λ i. option_map digest_of (page (7 - suc (length p)) (under_index i (named_entries es))))
      (λ i. digest_at f m (p ++ i ∷ []))
      (λ i. ap (λ l. option_map digest_of (page (7 - suc (length p)) l)) (index_named i es) ∙ ap (option_map digest_of) (sym (further i less))))

  -- no digest at an index that a child there cannot have
  none_further : ((key : List ℕ) → f key < 2 ^ 32) → (i : ℕ) → length p < 7 → last_index (length p) < i → digest_at f m (p ++ i ∷ []) ≡ None
  none_further bounded i less past =
      ap (option_map digest_of) (further i less ∙ ap (λ es. page (7 - suc (length p)) (named_entries es))
      (none_past f bounded p i (by_path f m) (HashedBy-by_path f m) less past))

  pub digest_past : ((key : List ℕ) → f key < 2 ^ 32) → (i : ℕ) → length p < 7 → (length p ≡ 7) ⊎ (last_index (length p) < i)
      → digest_at f m (p ++ i ∷ []) ≡ None
  digest_past bounded i less past = ⊎_elim (λ deep. absurd (omega (arith, deep, less))) (λ far. none_further bounded i less far) past
