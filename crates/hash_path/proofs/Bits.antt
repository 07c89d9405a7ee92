-- What a mask and a shift of the bitmap are in numbers.
use Rattle.std.proofs.Common.{◌≡◌, ℕ, ◌-◌, ◌*◌, ◌%◌, ◌^◌, ◌<◌, bit_and, ap, ◌∙◌}
use Rattle.std.specs.Prelude.{count_ones}
use Rattle.std.proofs.lemmas.Nat.{one_shl, and_mask}

pub below_bit : (m i : ℕ) → i < 32 → count_ones (bit_and m (1 * 2 ^ i % 4294967296 - 1)) ≡ count_ones (m % 2 ^ i)
below_bit m i h = ap (λ x. count_ones (bit_and m (x - 1))) (one_shl i 32 h) ∙ ap count_ones (and_mask m i)
