-- Which stores are plain.
use Rattle.std.proofs.Common.{◌≡◌, ℕ, zero, suc, ◌<◌, ◌+◌, Bool, ◌&&◌, true, false, List, [], ◌∷◌, ◌++◌, length, take, get_or, refl, sym, ap, ◌∙◌, arith}
use Rattle.std.proofs.lemmas.List.{take_more}
use Rattle.causal_join.specs.OrMap.{FieldsValue, OrMapStoreValue}
use Rattle.wire_form.specs.Store.{is_sole, is_plain_form}

pub both_true : (a b : Bool) → a && b ≡ true → (a ≡ true) × (b ≡ true)
both_true true b e = (refl, e)
both_true false b e = absurd (cc e)

and_assoc : (a b c : Bool) → (a && b) && c ≡ a && (b && c)
and_assoc true b c = refl
and_assoc false b c = refl

is_plain-append : (s t : OrMapStoreValue) → is_plain_form (s ++ t) ≡ is_plain_form s && is_plain_form t
is_plain-append [] t = refl
is_plain-append (e ∷ es) t = ap (λ (b : Bool). is_sole e.1 && b) (is_plain-append es t) ∙ sym (and_assoc (is_sole e.1) (is_plain_form es) (is_plain_form t))

-- each key of a plain store has the empty field alone
pub sole_at : (s : OrMapStoreValue) (i : ℕ) (e : List ℕ × FieldsValue) → i < length s → e ≡ get_or s i e → is_plain_form s ≡ true → is_sole e.1 ≡ true
sole_at [] i e h is t = absurd (omega arith)
sole_at (x ∷ s) zero e h is t = ap (λ (y : List ℕ × FieldsValue). is_sole y.1) is ∙ (both_true (is_sole x.1) (is_plain_form s) t).0
sole_at (x ∷ s) (suc i) e h is t = sole_at s i e (omega arith) is (both_true (is_sole x.1) (is_plain_form s) t).1

pub not_plain : (s : OrMapStoreValue) (i : ℕ) (e : List ℕ × FieldsValue) → i < length s → e ≡ get_or s i e → is_sole e.1 ≡ false → is_plain_form s ≡ false
not_plain s i e h is f = by_test (is_plain_form s) refl
  where
    by_test : (b : Bool) → is_plain_form s ≡ b → is_plain_form s ≡ false
    by_test false t = t
    by_test true t = let sole = sole_at s i e h is t in absurd (cc (sole, f))

-- the first of a store, and one key more
pub plain_more : (s : OrMapStoreValue) (i : ℕ) (e : List ℕ × FieldsValue) → is_plain_form (take i s) ≡ true → i < length s → e ≡ get_or s i e
    → is_sole e.1 ≡ true → is_plain_form (take (i + 1) s) ≡ true
plain_more s i e t h is here =
    let more : take (i + 1) s ≡ take i s ++ e ∷ [] = take_more s i e h ∙ ap (λ (y : List ℕ × FieldsValue). take i s ++ y ∷ []) (sym is) in
    ap is_plain_form more ∙ is_plain-append (take i s) (e ∷ []) ∙ ap (λ (b : Bool). b && (is_sole e.1 && true)) t ∙ ap (λ (b : Bool). b && true) here
