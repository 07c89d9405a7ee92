-- Words give back their hash and their bytes.
use Rattle.std.proofs.Common.{◌≡◌, ℕ, zero, suc, ◌≤◌, List, [], ◌∷◌, length, get_or, drop, true, false, nat_eq, arith, refl, sym, ◌∙◌, ap}
use Rattle.std.specs.declared.cmp.Ordering.{Ordering}
use Rattle.std.specs.declared.cmp.Ordering.TheVariants.{Less, Equal, Greater}
use Rattle.std.specs.Ordering.{is_eq, eq_by_cmp}
use Rattle.std.specs.Cmp.{tied_itself, both_ways}
use Rattle.std.specs.Cmp.Lexicographic.{nat_list_cmp_total, pointwise, texts_ties}
use Rattle.std.specs.FinMap.{nat_cmp-IsAntisymmetric, slice_cmp-IsAntisymmetric}
use Rattle.std.specs.FinMap.Entries.{by_order, put}
use Rattle.dots.specs.Bytes.{bytes_cmp}
use Rattle.hash_path.specs.Word.{word, hash_in, key_in, IsWord, AllWords}

pub hash_in-word : (height hash : ℕ) (key : List ℕ) → hash_in height (word height hash key) ≡ hash
hash_in-word zero hash key = refl
hash_in-word (suc below) hash key = hash_in-word below hash key

pub key_in-word : (height hash : ℕ) (key : List ℕ) → key_in height (word height hash key) ≡ key
key_in-word zero hash key = refl
key_in-word (suc below) hash key = key_in-word below hash key

pub IsWord-word : (height hash : ℕ) (key : List ℕ) → IsWord height (word height hash key)
IsWord-word height hash key = λ i. word height (sym (hash_in-word height hash key) i) (sym (key_in-word height hash key) i)

pub AllWords-put : {V : Type 0} (height : ℕ) (w : List ℕ) (v : V) (es : List (List ℕ × V)) → AllWords height es → IsWord height w
    → AllWords height (put bytes_cmp w v es)
AllWords-put height w v [] a p = (p, tt)
AllWords-put height w v (e ∷ es) a p = step (bytes_cmp w e.0) (AllWords-put height w v es a.1 p)
  where
    step : (o : Ordering) → AllWords height (put bytes_cmp w v es) → AllWords height (by_order o ((w, v) ∷ e ∷ es) ((e.0, v) ∷ es) (e ∷ put bytes_cmp w v es))
    step Less rest = (p, a)
    step Equal rest = a
    step Greater rest = (a.0, rest)

-- ---- what ties

equal : (o : Ordering) → is_eq o ≡ true → o ≡ Equal
equal Less e = cc
equal Equal e = refl
equal Greater e = cc

pub tied_same : (x y : List ℕ) → eq_by_cmp bytes_cmp x y ≡ true → x ≡ y
tied_same x y t = slice_cmp-IsAntisymmetric nat_cmp-IsAntisymmetric x y (equal (bytes_cmp x y) t)

pub same_tied : (x y : List ℕ) → x ≡ y → eq_by_cmp bytes_cmp x y ≡ true
same_tied x y e = ap (λ z. is_eq (bytes_cmp x z)) (sym e) ∙ ap is_eq (tied_itself nat_list_cmp_total x)

pub tied_by : (x y p q : List ℕ) → (x ≡ y → p ≡ q) → (p ≡ q → x ≡ y) → eq_by_cmp bytes_cmp x y ≡ eq_by_cmp bytes_cmp p q
tied_by x y p q f g = both_ways _ _ (λ t. same_tied p q (f (tied_same x y t))) (λ t. same_tied x y (g (tied_same p q t)))

-- two words tie exactly where hash and bytes do
pub tied-word : (height a b : ℕ) (k l : List ℕ) → eq_by_cmp bytes_cmp (word height a k) (word height b l) ≡ eq_by_cmp bytes_cmp (a ∷ k) (b ∷ l)
tied-word height a b k l =
    tied_by (word height a k) (word height b l) (a ∷ k) (b ∷ l)
    (λ e. let h = sym (hash_in-word height a k) ∙ ap (hash_in height) e ∙ hash_in-word height b l in
    let t = sym (key_in-word height a k) ∙ ap (key_in height) e ∙ key_in-word height b l in
    λ i. h i ∷ t i)
    (λ e. ap (λ x. word height (get_or x 0 0) (drop 1 x)) e)

-- ---- how many

pub length_put_le : {V : Type 0} (w : List ℕ) (v : V) (es : List (List ℕ × V)) → length (put bytes_cmp w v es) ≤ suc (length es)
length_put_le w v [] = omega arith
length_put_le w v (e ∷ es) = step (bytes_cmp w e.0) (length_put_le w v es)
  where
    step : (o : Ordering) → length (put bytes_cmp w v es) ≤ suc (length es) → length (by_order o ((w, v) ∷ e ∷ es) ((e.0, v) ∷ es) (e ∷ put bytes_cmp w v es))
        ≤ suc (suc (length es))
    step Less h = omega arith
    step Equal h = omega arith
    step Greater h = omega arith

pub length_put_ge : {V : Type 0} (w : List ℕ) (v : V) (es : List (List ℕ × V)) → length es ≤ length (put bytes_cmp w v es)
length_put_ge w v [] = omega arith
length_put_ge w v (e ∷ es) = step (bytes_cmp w e.0) (length_put_ge w v es)
  where
    step : (o : Ordering) → length es ≤ length (put bytes_cmp w v es) → suc (length es)
        ≤ length (by_order o ((w, v) ∷ e ∷ es) ((e.0, v) ∷ es) (e ∷ put bytes_cmp w v es))
    step Less h = omega arith
    step Equal h = omega arith
    step Greater h = omega arith

pub two_apart : {V : Type 0} (w x : List ℕ) (v u : V) → eq_by_cmp bytes_cmp w x ≡ false → 2 ≤ length {A = List ℕ × V} (put bytes_cmp w v ((x, u) ∷ []))
two_apart {V} w x v u = step (bytes_cmp w x)
  where
    step : (o : Ordering) → is_eq o ≡ false → 2 ≤ length {A = List ℕ × V} (by_order o ((w, v) ∷ (x, u) ∷ []) ((x, v) ∷ []) ((x, u) ∷ (w, v) ∷ []))
    step Less e = omega arith
    step Equal e = cc
    step Greater e = omega arith

-- in code: hashes are compared as numbers and bytes as slices
pub tied_bytes : (a b : ℕ) (k l : List ℕ) → b ≡ a → pointwise nat_eq l k ≡ eq_by_cmp bytes_cmp (a ∷ k) (b ∷ l)
tied_bytes a b k l e =
    texts_ties l k ∙ tied_by l k (a ∷ k) (b ∷ l) (λ p i. sym e i ∷ sym p i) (λ p. sym (ap (drop 1) p))

-- putting at a word that ties with the only one
pub put_tied : {V : Type 0} (w x : List ℕ) (v u : V) → w ≡ x → ◌≡◌ {A = List (List ℕ × V)} (put bytes_cmp w v ((x, u) ∷ [])) ((x, v) ∷ [])
put_tied {V} w x v u e = step (bytes_cmp w x) (equal (bytes_cmp w x) (same_tied w x e))
  where
    step : (o : Ordering) → o ≡ Equal → ◌≡◌ {A = List (List ℕ × V)} (by_order o ((w, v) ∷ (x, u) ∷ []) ((x, v) ∷ []) ((x, u) ∷ (w, v) ∷ [])) ((x, v) ∷ [])
    step Less q = cc
    step Equal q = refl
    step Greater q = cc
