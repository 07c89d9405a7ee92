-- The indices of a hash give back its bits, and a hash has 32 of them. Of this project.
use Rattle.std.specs.Prelude.{◌≡◌, ℕ, zero, suc, ◌+◌, ◌*◌, ◌/◌, ◌%◌, ◌^◌, ◌<◌, ◌≤◌, List, [], ◌∷◌, ◌++◌, length, refl}
use Rattle.std.proofs.Common.{sym, ◌∙◌, ap, arith}
use Rattle.std.proofs.lemmas.Nat.{mod-pow-add, pow-add}
use Rattle.std.proofs.Math.Nat.{mod-eq_of_lt}
use Rattle.hash_path.specs.Path.{indices, packed, last_index}
use Rattle.hash_path.specs.Fnv1a.{fnv1a, fnv1a_step, fnv1a_from}

pub length-indices : (depth bits : ℕ) → length (indices depth bits) ≡ depth
length-indices zero bits = refl
length-indices (suc depth) bits = ap suc (length-indices depth (bits / 32))

five_more : (d : ℕ) → 5 * suc d ≡ 5 * d + 5
five_more d = omega arith

pub mod_step : (d n : ℕ) → n % 2 ^ (5 * suc d) ≡ (n / 32 % 2 ^ (5 * d)) * 32 + n % 32
mod_step d n = ap (λ e. n % 2 ^ e) (five_more d) ∙ mod-pow-add n (5 * d) 5

pub packed-indices : (depth bits : ℕ) → packed (indices depth bits) ≡ bits % 2 ^ (5 * depth)
packed-indices zero bits = omega arith
packed-indices (suc depth) bits =
    let rest = packed-indices depth (bits / 32) in
    let step = mod_step depth bits in
    omega arith

pub unpacked : (depth bits : ℕ) → bits < 2 ^ (5 * depth) → (length (indices depth bits) ≡ depth) × (packed (indices depth bits) ≡ bits)
unpacked depth bits h = (length-indices depth bits, packed-indices depth bits ∙ mod-eq_of_lt h)

-- equal low bits have equal indices, and the other way round
pub same_indices : (depth a b : ℕ) → a % 2 ^ (5 * depth) ≡ b % 2 ^ (5 * depth) → indices depth a ≡ indices depth b
same_indices zero a b e = refl
same_indices (suc depth) a b e =
    let s = mod_step depth a in
    let t = mod_step depth b in
    let first : a % 32 ≡ b % 32 = omega arith in
    let rest : a / 32 % 2 ^ (5 * depth) ≡ b / 32 % 2 ^ (5 * depth) = omega arith in
    let tail = same_indices depth (a / 32) (b / 32) rest in
    λ i. first i ∷ tail i

pub same_bits : (depth a b : ℕ) → indices depth a ≡ indices depth b → a % 2 ^ (5 * depth) ≡ b % 2 ^ (5 * depth)
same_bits depth a b e = sym (packed-indices depth a) ∙ ap packed e ∙ packed-indices depth b

one_more : (bits q : ℕ) → ((bits + 32 * q) % 32 ≡ bits % 32) × ((bits + 32 * q) / 32 ≡ bits / 32 + q)
one_more bits q = (omega arith, omega arith)

times : (i p : ℕ) → i * (p * 32) ≡ 32 * (i * p)
times i p = grind arith

shifted : (d i : ℕ) → i * 2 ^ (5 * suc d) ≡ 32 * (i * 2 ^ (5 * d))
shifted d i = ap (λ e. i * 2 ^ e) (five_more d) ∙ ap (λ p. i * p) (pow-add 2 (5 * d) 5) ∙ times i (2 ^ (5 * d))

-- one index above the bits is one index more
pub indices-child : (depth bits index : ℕ) → bits < 2 ^ (5 * depth) → index < 32
    → indices (suc depth) (bits + index * 2 ^ (5 * depth)) ≡ indices depth bits ++ index ∷ []
indices-child zero bits index h less =
    let none : bits ≡ 0 = omega arith in
    let is : (bits + index * 1) % 32 ≡ index = omega arith in
    λ i. is i ∷ []
indices-child (suc depth) bits index h less =
    let q = index * 2 ^ (5 * depth) in
    let is : bits + index * 2 ^ (5 * suc depth) ≡ bits + 32 * q = ap (λ x. bits + x) (shifted depth index) in
    let low : bits / 32 < 2 ^ (5 * depth) = below depth bits h in
    ap (indices (suc (suc depth))) is
    ∙ (let a = (one_more bits q).0 in let b = ap (indices (suc depth)) (one_more bits q).1 ∙ indices-child depth (bits / 32) index low less in λ i. a i ∷ b i)
  where
    below : (d n : ℕ) → n < 2 ^ (5 * suc d) → n / 32 < 2 ^ (5 * d)
    below d n g = let e = ap (λ x. 2 ^ x) (five_more d) ∙ pow-add 2 (5 * d) 5 in omega arith

-- a child's bits are those of a number of 32 bits
pub child_fits : (depth bits index : ℕ) → depth < 7 → index ≤ last_index depth → bits < 2 ^ (5 * depth)
    → (index * 2 ^ (5 * depth) < 2 ^ 32) × (bits + index * 2 ^ (5 * depth) < 2 ^ 32) × (index < 32)
child_fits zero bits index h l b = (omega arith, omega arith, omega arith)
child_fits (suc zero) bits index h l b = (omega arith, omega arith, omega arith)
child_fits (suc (suc zero)) bits index h l b = (omega arith, omega arith, omega arith)
child_fits (suc (suc (suc zero))) bits index h l b = (omega arith, omega arith, omega arith)
child_fits (suc (suc (suc (suc zero)))) bits index h l b = (omega arith, omega arith, omega arith)
child_fits (suc (suc (suc (suc (suc zero))))) bits index h l b = (omega arith, omega arith, omega arith)
child_fits (suc (suc (suc (suc (suc (suc zero)))))) bits index h l b = (omega arith, omega arith, omega arith)
child_fits (suc (suc (suc (suc (suc (suc (suc depth))))))) bits index h l b = absurd (omega arith)

-- and below the power of the next depth
pub child_below : (depth bits index : ℕ) → index < 32 → bits < 2 ^ (5 * depth) → bits + index * 2 ^ (5 * depth) < 2 ^ (5 * (depth + 1))
child_below depth bits index less b =
    let e : 2 ^ (5 * (depth + 1)) ≡ 2 ^ (5 * depth) * 32 = ap (λ x. 2 ^ x) (more depth) ∙ pow-add 2 (5 * depth) 5 in
    grind arith
  where
    more : (d : ℕ) → 5 * (d + 1) ≡ 5 * d + 5
    more d = omega arith

-- ---- a hash has 32 bits

pub low_bits : (n : ℕ) → n % 2 ^ 32 < 2 ^ 32
low_bits n = omega arith

fnv1a_from_bounded : (hash : ℕ) (bytes : List ℕ) → hash < 2 ^ 32 → fnv1a_from hash bytes < 2 ^ 32
fnv1a_from_bounded hash [] h = h
fnv1a_from_bounded hash (byte ∷ bytes) h = fnv1a_from_bounded (fnv1a_step hash byte) bytes (low_bits _)

pub fnv1a_bounded : (key : List ℕ) → fnv1a key < 2 ^ 32
fnv1a_bounded key = fnv1a_from_bounded 0x811c9dc5 key (omega arith)
