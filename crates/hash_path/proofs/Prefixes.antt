-- What the calls of a prefix do to its bits, and so to its indices.
use Rattle.std.proofs.Common.{◌≡◌, ◌≢◌, length, ℕ, zero, suc, ◌+◌, ◌-◌, ◌*◌, ◌/◌, ◌%◌, ◌^◌, ◌<◌, ◌≤◌, ◌++◌, ◌∷◌, [], IsTrue, nat_eq, ◌↔◌, arith, refl, sym, ◌∙◌}
use Rattle.std.proofs.Common.{ap, subst, add-one, eq-eqb, eqb-true}
use Rattle.std.proofs.lemmas.Nat.{one_shl, pow-add}
use Rattle.std.proofs.Math.Nat.{mod-eq_of_lt}
use Rattle.hash_path.specs.Path.{AreIndices, indices, last_index}
use Rattle.hash_path.specs.PathLaws.{length-indices, same_indices, same_bits, child_fits, child_below, indices-child}

-- the test of a prefix's bits, at a mask or at the whole hash
pub test_is : (a b : ℕ) (P : Type 0) → (a ≡ b → P) → (P → a ≡ b) → IsTrue (nat_eq a b) ↔ P
test_is a b P f g = (λ t. f (eqb-true a b t), λ p. eq-eqb a b (g p))

pub covers_mask : (d bits hash : ℕ) → d < 7 → bits < 2 ^ (5 * d) → IsTrue (nat_eq (hash % (1 * 2 ^ (5 * d) % 4294967296)) bits) ↔
    (indices d hash ≡ indices d bits)
covers_mask d bits hash h b =
    let room : 5 * d < 32 = omega arith in
    let mask : 1 * 2 ^ (5 * d) % 4294967296 ≡ 2 ^ (5 * d) = one_shl (5 * d) 32 room in
    rw mask
    (test_is _ _ _
    (λ e. same_indices d hash bits (e ∙ sym (mod-eq_of_lt b)))
    (λ e. same_bits d hash bits e ∙ mod-eq_of_lt b))

pub covers_whole : (d bits hash : ℕ) → d ≡ 7 → bits < 2 ^ 32 → hash < 2 ^ 32 → IsTrue (nat_eq hash bits) ↔ (indices d hash ≡ indices d bits)
covers_whole d bits hash e b h =
    let below : hash < 2 ^ (5 * 7) = omega arith in
    let under : bits < 2 ^ (5 * 7) = omega arith in
    rw e
    (test_is hash bits _ (ap (indices 7)) (λ p. sym (mod-eq_of_lt below) ∙ same_bits 7 hash bits p ∙ mod-eq_of_lt under))

pub shift_is : (d bits index : ℕ) → d < 7 → index ≤ last_index d → bits < 2 ^ (5 * d) → index * 2 ^ (5 * d) % 4294967296 ≡ index * 2 ^ (5 * d)
shift_is d bits index h l b = mod-eq_of_lt (child_fits d bits index h l b).0

pub child_holds : (d bits index : ℕ) → d < 7 → index ≤ last_index d → bits < 2 ^ (5 * d)
    → (d + 1 ≤ 7) × (bits + index * 2 ^ (5 * d) % 4294967296 < 2 ^ (5 * (d + 1))) × (bits + index * 2 ^ (5 * d) % 4294967296 < 4294967296)
child_holds d bits index h l b =
    let fits = child_fits d bits index h l b in
    rw (shift_is d bits index h l b) (omega arith, child_below d bits index fits.2 b, fits.1)

pub child_is : (d bits index : ℕ) → d < 7 → index ≤ last_index d → bits < 2 ^ (5 * d)
    → indices (d + 1) (bits + index * 2 ^ (5 * d) % 4294967296) ≡ indices d bits ++ index ∷ []
child_is d bits index h l b =
    let fits = child_fits d bits index h l b in
    rw (shift_is d bits index h l b, add-one) (indices-child d bits index b fits.2)

-- the bits after the first index
pub rest_fits : (depth bits : ℕ) → depth ≢ 0 → (depth ≤ 7) × (bits < 2 ^ (5 * depth)) × (bits < 2 ^ 32)
    → (depth - 1 ≤ 7) × (bits / 32 < 2 ^ (5 * (depth - 1))) × (bits / 32 < 2 ^ 32)
rest_fits zero bits n h = absurd (n refl)
rest_fits (suc d) bits n h =
    let low = h.1 in
    let e : 2 ^ (5 * suc d) ≡ 2 ^ (5 * d) * 32 = ap (λ x. 2 ^ x) (five d) ∙ pow-add 2 (5 * d) 5 in
    let first = h.0 in
    let last = h.2 in
    let rest : bits / 32 < 2 ^ (5 * d) = omega arith in
    (omega arith, subst (λ k. bits / 32 < 2 ^ (5 * k)) (less_one d) rest, omega arith)
  where
    less_one : (k : ℕ) → k ≡ suc k - 1
    less_one k = omega arith

    five : (d : ℕ) → 5 * suc d ≡ 5 * d + 5
    five d = omega arith

pub first_and_rest : (depth bits : ℕ) → depth ≢ 0 → indices depth bits ≡ bits % 32 ∷ indices (depth - 1) (bits / 32)
first_and_rest zero bits n = absurd (n refl)
first_and_rest (suc d) bits n = ap (λ k. bits % 32 ∷ indices k (bits / 32)) (less_one d)
  where
    less_one : (k : ℕ) → k ≡ suc k - 1
    less_one k = omega arith

-- ---- the indices of a prefix are lawful, as its bits are those of a hash

-- a depth from 0 to 6, and so many indices from there on
first_lawful : (at bits : ℕ) → at < 7 → bits * 2 ^ (5 * at) < 2 ^ 32 → bits % 32 ≤ last_index at
first_lawful zero bits h b = omega arith
first_lawful (suc zero) bits h b = omega arith
first_lawful (suc (suc zero)) bits h b = omega arith
first_lawful (suc (suc (suc zero))) bits h b = omega arith
first_lawful (suc (suc (suc (suc zero)))) bits h b = omega arith
first_lawful (suc (suc (suc (suc (suc zero))))) bits h b = omega arith
first_lawful (suc (suc (suc (suc (suc (suc zero)))))) bits h b = omega arith
first_lawful (suc (suc (suc (suc (suc (suc (suc at))))))) bits h b = absurd (omega arith)

others_below : (at bits : ℕ) → at < 7 → bits * 2 ^ (5 * at) < 2 ^ 32 → (bits / 32) * 2 ^ (5 * suc at) < 2 ^ 32
others_below zero bits h b = omega arith
others_below (suc zero) bits h b = omega arith
others_below (suc (suc zero)) bits h b = omega arith
others_below (suc (suc (suc zero))) bits h b = omega arith
others_below (suc (suc (suc (suc zero)))) bits h b = omega arith
others_below (suc (suc (suc (suc (suc zero))))) bits h b = omega arith
others_below (suc (suc (suc (suc (suc (suc zero)))))) bits h b = omega arith
others_below (suc (suc (suc (suc (suc (suc (suc at))))))) bits h b = absurd (omega arith)

pub are_indices : (at depth bits : ℕ) → at + depth ≤ 7 → bits * 2 ^ (5 * at) < 2 ^ 32 → AreIndices at (indices depth bits)
are_indices at zero bits h b = tt
are_indices at (suc depth) bits h b =
    (first_lawful at bits (omega arith) b, are_indices (suc at) depth (bits / 32) (omega arith) (others_below at bits (omega arith) b))

-- the greatest index of a child, by the indices
pub last_is : (depth bits last : ℕ) → depth < 7 → last ≡ last_index depth → (length (indices depth bits) < 7)
    × (last ≡ last_index (length (indices depth bits)))
last_is depth bits last h e = let long = length-indices depth bits in (omega arith, e ∙ ap last_index (sym long))
