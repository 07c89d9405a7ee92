-- The bitmap gives a child's position, and what an edit at that position leaves.
use Rattle.std.proofs.Common.{◌≡◌, ℕ, suc, ◌+◌, ◌-◌, ◌*◌, ◌/◌, ◌%◌, ◌^◌, ◌<◌, ◌≤◌, ◌≢◌, List, [], ◌∷◌, length, get_or, set, true, false, nat_eq, arith, refl}
use Rattle.std.proofs.Common.{sym, ◌∙◌, ap, eq-eqb, ne_eqb}
use Rattle.std.specs.Prelude.{count_ones}
use Rattle.std.specs.Int.Count.{ones}
use Rattle.std.specs.List.{insert}
use Rattle.std.specs.declared.cmp.Ordering.{Ordering}
use Rattle.std.specs.declared.cmp.Ordering.TheVariants.{Less, Equal, Greater}
use Rattle.std.specs.Ordering.{nat_cmp}
use Rattle.std.specs.FinMap.Entries.{by_order}
use Rattle.std.proofs.lemmas.Nat.{ones_cat, mod-pow-add, pow-add}
use Rattle.std.proofs.Math.Nat.{mod-eq_of_lt, zero-mul, mul-mod_left, add-mul-mod_self_right, add-mul-div_right, div-eq_of_lt, pow-suc}
use Rattle.std.proofs.Math.Pow.{pow_pos, pow_mono}
use Rattle.hash_path.specs.Fan.{Rise, bits_of, place, there, at, put_child}
use Rattle.hash_path.proofs.Orders.{less, same, more}

odd : (p j q : ℕ) → j * p + q * ((j * p) * 2) ≡ ((1 + 2 * q) * j) * p
odd p j q = grind arith

-- the bitmap has no bit below the first index
multiple : {V : Type 0} (low : ℕ) (cs : List (ℕ × List (List ℕ × V))) → Rise low cs → (q : ℕ) × (bits_of cs ≡ q * 2 ^ low)
multiple low [] r = (0, sym (zero-mul (2 ^ low)))
multiple low (c ∷ cs) r =
    let rest = multiple (suc c.0) cs r.2 in
    let j = c.0 - low in
    let split : c.0 ≡ j + low = let h = r.0 in omega arith in
    let power : 2 ^ c.0 ≡ 2 ^ j * 2 ^ low = ap (λ e. 2 ^ e) split ∙ pow-add 2 j low in (
      (1 + 2 * rest.0) * 2 ^ j,
      ap (λ x. 2 ^ c.0 + x) (rest.1 ∙ ap (λ x. rest.0 * x) (pow-suc 2 c.0))
          ∙ ap (λ x. x + rest.0 * (x * 2)) power ∙ odd (2 ^ low) (2 ^ j) rest.0,
    )

ones_none : (q i : ℕ) → count_ones ((q * 2 ^ i) % 2 ^ i) ≡ 0
unfolding ones
ones_none q i = ap count_ones (mul-mod_left q (2 ^ i))

ones_high : (q j k r : ℕ) → r < 2 ^ k → count_ones ((r + q * 2 ^ k) % 2 ^ (j + k)) ≡ count_ones (q % 2 ^ j) + count_ones r
ones_high q j k r h =
    let low : (r + q * 2 ^ k) % 2 ^ k ≡ r = add-mul-mod_self_right r q (2 ^ k) ∙ mod-eq_of_lt h in
    let high : (r + q * 2 ^ k) / 2 ^ k ≡ q = add-mul-div_right r q (pow_pos k) ∙ ap (λ x. x + q) (div-eq_of_lt h) ∙ omega arith in
    ap count_ones (mod-pow-add (r + q * 2 ^ k) j k ∙ (λ t. (high t % 2 ^ j) * 2 ^ k + low t)) ∙ ones_cat k (q % 2 ^ j) r h

one_bit : (k : ℕ) → count_ones (2 ^ k) ≡ 1
unfolding ones
one_bit k =
    let is : 2 ^ k ≡ 1 * 2 ^ k + 0 = omega arith in
    ap count_ones is ∙ ones_cat k 1 0 (pow_pos k)

next_bit : (q j c : ℕ) → count_ones ((2 ^ c + q * 2 ^ suc c) % 2 ^ (j + suc c)) ≡ suc (count_ones ((q * 2 ^ suc c) % 2 ^ (j + suc c)))
unfolding ones
next_bit q j c =
    let fits : 2 ^ c < 2 ^ suc c = let e = pow-suc 2 c in let p = pow_pos c in omega arith in
    let none : 0 + q * 2 ^ suc c ≡ q * 2 ^ suc c = omega arith in
    let with = ones_high q j (suc c) (2 ^ c) fits ∙ ap (λ x. count_ones (q % 2 ^ j) + x) (one_bit c) in
    let without = ap (λ x. count_ones (x % 2 ^ (j + suc c))) (sym none) ∙ ones_high q j (suc c) 0 (pow_pos (suc c)) in
    omega arith

position_step : {V : Type 0} (low i : ℕ) (c : ℕ × List (List ℕ × V)) (cs : List (ℕ × List (List ℕ × V))) (o : Ordering) → nat_cmp i c.0 ≡ o → Rise low (c ∷ cs)
    → count_ones (bits_of cs % 2 ^ i) ≡ place i cs → count_ones (bits_of (c ∷ cs) % 2 ^ i) ≡ by_order o 0 0 (suc (place i cs))
position_step low i c cs Less p r rest =
    let from : i ≤ c.0 = let h = less i c.0 p in omega arith in
    let m = multiple i (c ∷ cs) (from, r.1, r.2) in
    ap (λ x. count_ones (x % 2 ^ i)) m.1 ∙ ones_none m.0 i
position_step low i c cs Equal p r rest =
    let from : i ≤ c.0 = let h = same i c.0 p in omega arith in
    let m = multiple i (c ∷ cs) (from, r.1, r.2) in
    ap (λ x. count_ones (x % 2 ^ i)) m.1 ∙ ones_none m.0 i
position_step low i c cs Greater p r rest =
    let j = i - suc c.0 in
    let split : i ≡ j + suc c.0 = let h = more i c.0 p in omega arith in
    let m = multiple (suc c.0) cs r.2 in
    ap (λ x. count_ones ((2 ^ c.0 + x) % 2 ^ i)) m.1 ∙ ap (λ e. count_ones ((2 ^ c.0 + m.0 * 2 ^ suc c.0) % 2 ^ e)) split ∙ next_bit m.0 j c.0
    ∙ ap suc (ap (λ e. count_ones ((m.0 * 2 ^ suc c.0) % 2 ^ e)) (sym split) ∙ ap (λ x. count_ones (x % 2 ^ i)) (sym m.1) ∙ rest)

pub position_is : {V : Type 0} (low i : ℕ) (cs : List (ℕ × List (List ℕ × V))) → Rise low cs → count_ones (bits_of cs % 2 ^ i) ≡ place i cs
unfolding ones
position_is low i [] r = ap count_ones (mod-eq_of_lt (pow_pos i))
position_is low i (c ∷ cs) r = position_step low i c cs (nat_cmp i c.0) refl r (position_is (suc c.0) i cs r.2)

-- a bitmap has 32 bits
pub bits_fit : {V : Type 0} (low : ℕ) (cs : List (ℕ × List (List ℕ × V))) → Rise low cs → low ≤ 32 → bits_of cs + 2 ^ low ≤ 2 ^ 32
bits_fit low [] r h = let m = pow_mono h in omega arith
bits_fit low (c ∷ cs) r h =
    let next : suc c.0 ≤ 32 = let k = r.1 in omega arith in
    let rest = bits_fit (suc c.0) cs r.2 next in
    let power = pow-suc 2 c.0 in
    let m = pow_mono r.0 in
    omega arith

pub place_le : {V : Type 0} (i : ℕ) (cs : List (ℕ × List (List ℕ × V))) → place i cs ≤ length cs
place_le i [] = omega arith
place_le i (c ∷ cs) = step (nat_cmp i c.0) (place_le i cs)
  where
    step : (o : Ordering) → place i cs ≤ length cs → by_order o 0 0 (suc (place i cs)) ≤ suc (length cs)
    step Less h = omega arith
    step Equal h = omega arith
    step Greater h = omega arith

-- ---- whether an index is there

test_step : {V : Type 0} (i : ℕ) (c x : ℕ × List (List ℕ × V)) (cs : List (ℕ × List (List ℕ × V))) (o : Ordering) → nat_cmp i c.0 ≡ o
    → (place i cs < length cs → x ≡ get_or cs (place i cs) x → nat_eq x.0 i ≡ there i cs)
    → by_order o 0 0 (suc (place i cs)) < suc (length cs) → x ≡ get_or (c ∷ cs) (by_order o 0 0 (suc (place i cs))) x
    → nat_eq x.0 i ≡ by_order o false true (there i cs)
test_step i c x cs Less p rest h e =
    let first = ap (λ y. y.0) e in
    let ne : x.0 ≢ i = λ q. let l = less i c.0 p in omega arith in
    ne_eqb x.0 i ne
test_step i c x cs Equal p rest h e = eq-eqb x.0 i (ap (λ y. y.0) e ∙ sym (same i c.0 p))
test_step i c x cs Greater p rest h e =
    let within : place i cs < length cs = omega arith in
    rest within e

pub test_some : {V : Type 0} (i : ℕ) (x : ℕ × List (List ℕ × V)) (cs : List (ℕ × List (List ℕ × V))) → place i cs < length cs → x ≡ get_or cs (place i cs) x
    → nat_eq x.0 i ≡ there i cs
test_some i x [] h e = absurd (omega arith)
test_some i x (c ∷ cs) h e = test_step i c x cs (nat_cmp i c.0) refl (test_some i x cs) h e

pub test_none : {V : Type 0} (i : ℕ) (cs : List (ℕ × List (List ℕ × V))) → length cs ≤ place i cs → there i cs ≡ false
test_none i [] h = refl
test_none i (c ∷ cs) h = step (nat_cmp i c.0) (test_none i cs) h
  where
    step : (o : Ordering) → (length cs ≤ place i cs → there i cs ≡ false) → suc (length cs) ≤ by_order o 0 0 (suc (place i cs))
        → by_order o false true (there i cs) ≡ false
    step Less rest k = refl
    step Equal rest k = absurd (omega arith)
    step Greater rest k = let within : length cs ≤ place i cs = omega arith in rest within

-- ---- an index that is there

there_step : {V : Type 0} (i : ℕ) (c d : ℕ × List (List ℕ × V)) (cs : List (ℕ × List (List ℕ × V))) (o : Ordering) → nat_cmp i c.0 ≡ o
    → (there i cs ≡ true → (place i cs < length cs) × ((get_or cs (place i cs) d).0 ≡ i) × ((get_or cs (place i cs) d).1 ≡ at i cs))
    → by_order o false true (there i cs) ≡ true
    → (by_order o 0 0 (suc (place i cs)) < suc (length cs)) × ((get_or (c ∷ cs) (by_order o 0 0 (suc (place i cs))) d).0 ≡ i)
    × ((get_or (c ∷ cs) (by_order o 0 0 (suc (place i cs))) d).1 ≡ by_order o [] c.1 (at i cs))
there_step i c d cs Less p rest t = cc
there_step i c d cs Equal p rest t = (omega arith, sym (same i c.0 p), refl)
there_step i c d cs Greater p rest t = let h = rest t in let k = h.0 in (omega arith, h.1, h.2)

pub there_at : {V : Type 0} (i : ℕ) (d : ℕ × List (List ℕ × V)) (cs : List (ℕ × List (List ℕ × V))) → there i cs ≡ true
    → (place i cs < length cs) × ((get_or cs (place i cs) d).0 ≡ i) × ((get_or cs (place i cs) d).1 ≡ at i cs)
there_at i d [] t = cc
there_at i d (c ∷ cs) t = there_step i c d cs (nat_cmp i c.0) refl (there_at i d cs) t

set_step : {V : Type 0} (i : ℕ) (es : List (List ℕ × V)) (c : ℕ × List (List ℕ × V)) (cs : List (ℕ × List (List ℕ × V))) (o : Ordering) → nat_cmp i c.0 ≡ o
    → (there i cs ≡ true → set cs (place i cs) (i, es) ≡ put_child i es cs) → by_order o false true (there i cs) ≡ true
    → set (c ∷ cs) (by_order o 0 0 (suc (place i cs))) (i, es) ≡ by_order o ((i, es) ∷ c ∷ cs) ((c.0, es) ∷ cs) (c ∷ put_child i es cs)
set_step i es c cs Less p rest t = cc
set_step i es c cs Equal p rest t = ap (λ k. (k, es) ∷ cs) (same i c.0 p)
set_step i es c cs Greater p rest t = ap (λ l. c ∷ l) (rest t)

pub set_there : {V : Type 0} (i : ℕ) (es : List (List ℕ × V)) (cs : List (ℕ × List (List ℕ × V))) → there i cs ≡ true
    → set cs (place i cs) (i, es) ≡ put_child i es cs
set_there i es [] t = cc
set_there i es (c ∷ cs) t = set_step i es c cs (nat_cmp i c.0) refl (set_there i es cs) t

-- ---- an index that is not

pub at_absent : {V : Type 0} (i : ℕ) (cs : List (ℕ × List (List ℕ × V))) → there i cs ≡ false → at i cs ≡ []
at_absent i [] t = refl
at_absent i (c ∷ cs) t = step (nat_cmp i c.0) (at_absent i cs) t
  where
    step : (o : Ordering) → (there i cs ≡ false → at i cs ≡ []) → by_order o false true (there i cs) ≡ false → by_order o [] c.1 (at i cs) ≡ []
    step Less rest k = refl
    step Equal rest k = cc
    step Greater rest k = rest k

insert_step : {V : Type 0} (i : ℕ) (es : List (List ℕ × V)) (c : ℕ × List (List ℕ × V)) (cs : List (ℕ × List (List ℕ × V))) (o : Ordering)
    → (there i cs ≡ false → insert cs (place i cs) (i, es) ≡ put_child i es cs) → by_order o false true (there i cs) ≡ false
    → insert (c ∷ cs) (by_order o 0 0 (suc (place i cs))) (i, es) ≡ by_order o ((i, es) ∷ c ∷ cs) ((c.0, es) ∷ cs) (c ∷ put_child i es cs)
insert_step i es c cs Less rest t = refl
insert_step i es c cs Equal rest t = cc
insert_step i es c cs Greater rest t = ap (λ l. c ∷ l) (rest t)

pub insert_absent : {V : Type 0} (i : ℕ) (es : List (List ℕ × V)) (cs : List (ℕ × List (List ℕ × V))) → there i cs ≡ false
    → insert cs (place i cs) (i, es) ≡ put_child i es cs
insert_absent i es [] t = refl
insert_absent i es (c ∷ cs) t = insert_step i es c cs (nat_cmp i c.0) (insert_absent i es cs) t

-- ---- what an edit keeps

rise_step : {V : Type 0} (low i : ℕ) (es : List (List ℕ × V)) (c : ℕ × List (List ℕ × V)) (cs : List (ℕ × List (List ℕ × V))) (o : Ordering) → nat_cmp i c.0 ≡ o
    → (suc c.0 ≤ i → Rise (suc c.0) (put_child i es cs)) → low ≤ i → i < 32 → Rise low (c ∷ cs)
    → Rise low (by_order o ((i, es) ∷ c ∷ cs) ((c.0, es) ∷ cs) (c ∷ put_child i es cs))
rise_step low i es c cs Less p rest h l r = (h, l, (less i c.0 p, r.1, r.2))
rise_step low i es c cs Equal p rest h l r = r
rise_step low i es c cs Greater p rest h l r = (r.0, r.1, rest (more i c.0 p))

pub Rise-put_child : {V : Type 0} (low i : ℕ) (es : List (List ℕ × V)) (cs : List (ℕ × List (List ℕ × V))) → low ≤ i → i < 32 → Rise low cs
    → Rise low (put_child i es cs)
Rise-put_child low i es [] h l r = (h, l, tt)
Rise-put_child low i es (c ∷ cs) h l r = rise_step low i es c cs (nat_cmp i c.0) refl (λ k. Rise-put_child (suc c.0) i es cs k l r.2) h l r

pub bits_there : {V : Type 0} (i : ℕ) (es : List (List ℕ × V)) (cs : List (ℕ × List (List ℕ × V))) → there i cs ≡ true
    → bits_of (put_child i es cs) ≡ bits_of cs
bits_there i es [] t = cc
bits_there i es (c ∷ cs) t = step (nat_cmp i c.0) (bits_there i es cs) t
  where
    step : (o : Ordering) → (there i cs ≡ true → bits_of (put_child i es cs) ≡ bits_of cs) → by_order o false true (there i cs) ≡ true
        → bits_of (by_order o ((i, es) ∷ c ∷ cs) ((c.0, es) ∷ cs) (c ∷ put_child i es cs)) ≡ 2 ^ c.0 + bits_of cs
    step Less rest k = cc
    step Equal rest k = refl
    step Greater rest k = ap (λ x. 2 ^ c.0 + x) (rest k)

pub bits_absent : {V : Type 0} (i : ℕ) (es : List (List ℕ × V)) (cs : List (ℕ × List (List ℕ × V))) → there i cs ≡ false
    → bits_of (put_child i es cs) ≡ bits_of cs + 2 ^ i
bits_absent i es [] t = omega arith
bits_absent i es (c ∷ cs) t = step (nat_cmp i c.0) (bits_absent i es cs) t
  where
    step : (o : Ordering) → (there i cs ≡ false → bits_of (put_child i es cs) ≡ bits_of cs + 2 ^ i) → by_order o false true (there i cs) ≡ false
        → bits_of (by_order o ((i, es) ∷ c ∷ cs) ((c.0, es) ∷ cs) (c ∷ put_child i es cs)) ≡ (2 ^ c.0 + bits_of cs) + 2 ^ i
    step Less rest k = omega arith
    step Equal rest k = cc
    step Greater rest k = let h = rest k in omega arith
