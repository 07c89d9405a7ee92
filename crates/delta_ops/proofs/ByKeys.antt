-- Stores that are put at keys where nothing stands: over plain variables.
use Rattle.std.proofs.Common.{◌≡◌, ℕ, cond, Bool, true, false, List, [], ◌∷◌, ◌++◌, Option, Some, None, ◌⊎◌, inl, inr, refl, sym, ap, ◌∙◌}
use Rattle.std.specs.Prelude.{is_some}
use Rattle.std.specs.BTreeMap.{is_at}
use Rattle.std.specs.Map.{lookup}
use Rattle.std.specs.Option.{option_or}
use Rattle.std.proofs.lemmas.Bool.{false≢true, cond-true, cond-false}
use Rattle.std.proofs.lemmas.List.{append-nil, append_assoc}
use Rattle.causal_join.specs.OrMap.{FieldsValue, OrMapStoreValue, fields_at, or_map_at}
use Rattle.dot_store.specs.Stores.{at_stores, held_by}
use Rattle.dots.specs.Bytes.{bytes_cmp}
use Rattle.dots.specs.Dot.{DotValue}
use Rattle.hash_path.proofs.Words.{same_tied, tied_same}

-- what stands at a key
abbrev pub at_key : OrMapStoreValue → List ℕ → Option FieldsValue
at_key stores key = lookup (is_at (bytes_cmp key)) stores

-- at each key stands what stood there, or what came, and not both did
abbrev pub ArePut : (old came new : OrMapStoreValue) → Type 0
ArePut old came new = (key : List ℕ) → ((at_key new key ≡ at_key old key) × (at_key came key ≡ None)) ⊎ ((at_key new key ≡ at_key came key) × (at_key old key ≡ None))

pub put_none : (old : OrMapStoreValue) → ArePut old [] old
put_none old key = inl (refl, refl)

-- a list with one entry more
module _ (test : List ℕ → Bool) (key : List ℕ) (fields : FieldsValue) where
  found_last : (came : OrMapStoreValue) → test key ≡ true → lookup test came ≡ None → lookup test (came ++ (key, fields) ∷ []) ≡ Some fields
  found_last [] here none = cond-true (test key) (Some fields) None here
  found_last (x ∷ came) here none = by (test x.0) refl (found_last came here)
    where
      by : (b : Bool) → test x.0 ≡ b → (lookup test came ≡ None → lookup test (came ++ (key, fields) ∷ []) ≡ Some fields)
          → lookup test (x ∷ came ++ (key, fields) ∷ []) ≡ Some fields
      by true is rest = absurd (let e : Some x.1 ≡ None = sym (cond-true (test x.0) (Some x.1) (lookup test came) is) ∙ none in cc)
      by false is rest = cond-false (test x.0) (Some x.1) (lookup test (came ++ (key, fields) ∷ [])) is
          ∙ rest (sym (cond-false (test x.0) (Some x.1) (lookup test came) is) ∙ none)

  found_before : (came : OrMapStoreValue) → test key ≡ false → lookup test (came ++ (key, fields) ∷ []) ≡ lookup test came
  found_before [] apart = cond-false (test key) (Some fields) None apart
  found_before (x ∷ came) apart = ap (λ r. cond (test x.0) (Some x.1) r) (found_before came apart)

pub put_more : (old came found new : OrMapStoreValue) (key : List ℕ) (fields : FieldsValue)
    → ((q : List ℕ) → at_key new q ≡ cond (is_at (bytes_cmp key) q) (Some fields) (at_key found q)) → at_key found key ≡ None
    → ArePut old came found → ArePut old (came ++ (key, fields) ∷ []) new
put_more old came found new key fields updates absent put q = by (is_at (bytes_cmp key) q) refl (put q)
  where
    turned : (b : Bool) → is_at (bytes_cmp q) key ≡ b → is_at (bytes_cmp key) q ≡ false → b ≡ false
    turned true tied apart = absurd (false≢true (sym apart ∙ same_tied key q (sym (tied_same q key tied))))
    turned false tied apart = refl

    by : (b : Bool) → is_at (bytes_cmp key) q ≡ b
        → ((at_key found q ≡ at_key old q) × (at_key came q ≡ None)) ⊎ ((at_key found q ≡ at_key came q) × (at_key old q ≡ None))
        → ((at_key new q ≡ at_key old q) × (at_key (came ++ (key, fields) ∷ []) q ≡ None))
        ⊎ ((at_key new q ≡ at_key (came ++ (key, fields) ∷ []) q) × (at_key old q ≡ None))
    by true tied was = inr (here was)
      where
        same : key ≡ q
        same = tied_same key q tied

        none : at_key found q ≡ None
        none = ap (at_key found) (sym same) ∙ absent

        last : at_key came q ≡ None → at_key new q ≡ at_key (came ++ (key, fields) ∷ []) q
        last empty = updates q ∙ cond-true (is_at (bytes_cmp key) q) (Some fields) (at_key found q) tied
            ∙ sym (found_last (is_at (bytes_cmp q)) key fields came (same_tied q key (sym same)) empty)

        here : ((at_key found q ≡ at_key old q) × (at_key came q ≡ None)) ⊎ ((at_key found q ≡ at_key came q) × (at_key old q ≡ None))
            → (at_key new q ≡ at_key (came ++ (key, fields) ∷ []) q) × (at_key old q ≡ None)
        here (inl p) = (last p.1, sym p.0 ∙ none)
        here (inr p) = (last (sym p.0 ∙ none), p.1)
    by false apart was = there was
      where
        stays : at_key new q ≡ at_key found q
        stays = updates q ∙ cond-false (is_at (bytes_cmp key) q) (Some fields) (at_key found q) apart

        before : at_key (came ++ (key, fields) ∷ []) q ≡ at_key came q
        before = found_before (is_at (bytes_cmp q)) key fields came (turned (is_at (bytes_cmp q) key) refl apart)

        there : ((at_key found q ≡ at_key old q) × (at_key came q ≡ None)) ⊎ ((at_key found q ≡ at_key came q) × (at_key old q ≡ None))
            → ((at_key new q ≡ at_key old q) × (at_key (came ++ (key, fields) ∷ []) q ≡ None))
            ⊎ ((at_key new q ≡ at_key (came ++ (key, fields) ∷ []) q) × (at_key old q ≡ None))
        there (inl p) = inl (stays ∙ p.0, before ∙ p.1)
        there (inr p) = inr (stays ∙ p.0 ∙ sym before, p.1)

-- a test that fails
pub none_from : {X : Type 0} (found : Option X) (test : Bool) → test ≡ is_some found → test ≡ false → found ≡ None
none_from (Some x) test is fails = absurd (false≢true (sym fails ∙ is))
none_from None test is fails = refl

-- one item more came of a list
pub came_more : {X : Type 0} (came rest more all : List X) (x : X) → came ++ more ≡ all → more ≡ x ∷ rest → came ++ x ∷ [] ++ rest ≡ all
came_more came rest more all x parts next = append_assoc came (x ∷ []) rest ∙ ap (λ ys. came ++ ys) (sym next) ∙ parts

pub came_all : {X : Type 0} (came more all : List X) → came ++ more ≡ all → more ≡ [] → came ≡ all
came_all came more all parts none = sym (append-nil came) ∙ ap (λ ys. came ++ ys) (sym none) ∙ parts

-- the first of two that may be there, where the second is not
pub option_with_none : {X : Type 0} (a : Option X) → option_or a None ≡ a
option_with_none (Some x) = refl
option_with_none None = refl

pub put_at : (old came new : OrMapStoreValue) → ArePut old came new → (place : _) (d : DotValue)
    → or_map_at new place d ≡ option_or (or_map_at old place d) (or_map_at came place d)
unfolding at_stores
put_at old came new put place d = by (put place.0)
  where
    held : Option FieldsValue → Option (List ℕ)
    held stores = held_by fields_at stores place.1 d

    by : ((at_key new place.0 ≡ at_key old place.0) × (at_key came place.0 ≡ None)) ⊎ ((at_key new place.0 ≡ at_key came place.0) × (at_key old place.0 ≡ None))
        → or_map_at new place d ≡ option_or (or_map_at old place d) (or_map_at came place d)
    by (inl p) = ap held p.0 ∙ sym (option_with_none (or_map_at old place d)) ∙ ap (λ c. option_or (or_map_at old place d) c) (sym (ap held p.1))
    by (inr p) = ap held p.0 ∙ ap (λ o. option_or o (or_map_at came place d)) (sym (ap held p.1))
