-- The path of a key begins with as many indices of its hash as are asked for, in the order of the depths; after all seven come
-- the hash and the bytes.
use Rattle.std.proofs.Common.{◌≡◌, ℕ, zero, suc, ◌+◌, ◌-◌, ◌*◌, ◌/◌, ◌^◌, List, ◌∷◌, ◌++◌, arith, refl, sym, ◌∙◌, ap}
use Rattle.std.proofs.Math.Nat.{div-one, div-div-eq-div-mul}
use Rattle.std.proofs.lemmas.Nat.{pow-add}
use Rattle.hash_path.specs.Path.{index_in, indices}
use Rattle.hash_path.specs.Word.{word}
use Rattle.hash_path.specs.Map.{path}

abbrev levels : ℕ → ℕ → ℕ
levels zero r = r
levels (suc d) r = suc (levels d r)

levels_are : (d r : ℕ) → levels d r ≡ d + r
levels_are zero r = omega arith
levels_are (suc d) r = let e = levels_are d r in omega arith

shifted_again : (hash k : ℕ) → hash / 2 ^ (5 * k) / 32 ≡ hash / 2 ^ (5 * suc k)
shifted_again hash k = div-div-eq-div-mul hash (2 ^ (5 * k)) 32 ∙ ap (λ x. hash / x) (sym (pow-add 2 (5 * k) 5)) ∙ ap (λ e. hash / 2 ^ e) (five_more k)
  where
    five_more : (k : ℕ) → 5 * k + 5 ≡ 5 * suc k
    five_more k = omega arith

word_begins : (d r k hash : ℕ) (key : List ℕ) → levels d r + k ≡ 7 → word (levels d r) hash key ≡ indices d (hash / 2 ^ (5 * k)) ++ word r hash key
word_begins zero r k hash key e = refl
word_begins (suc d) r k hash key e =
    let here : 6 - levels d r ≡ k = omega arith in
    let rest = word_begins d r (suc k) hash key (omega arith) ∙ ap (λ x. indices d x ++ word r hash key) (sym (shifted_again hash k)) in
    let first = ap (index_in hash) here in
    λ i. first i ∷ rest i

pub path_begins : (f : List ℕ → ℕ) (d r : ℕ) (key : List ℕ) → d + r ≡ 7 → path f key ≡ indices d (f key) ++ word r (f key) key
path_begins f d r key e =
    let all : levels d r ≡ 7 = levels_are d r ∙ e in
    ap (λ h. word h (f key) key) (sym all) ∙ word_begins d r 0 (f key) key (omega arith) ∙ ap (λ x. indices d x ++ word r (f key) key) (div-one (f key))

pub path_is : (f : List ℕ → ℕ) (key : List ℕ) → path f key ≡ indices 7 (f key) ++ f key ∷ key
path_is f key = path_begins f 7 0 key refl
