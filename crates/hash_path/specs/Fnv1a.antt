-- FNV-1a of 32 bits, after Fowler, Noll and Vo, "The FNV Non-Cryptographic Hash Algorithm": the hash begins at the
-- offset basis, and each byte in turn is combined with it by exclusive-or, before it is multiplied by the prime. The
-- product is kept modulo 2^32. The hash of the empty key is the offset basis.
use Rattle.std.specs.Prelude.{ℕ, ◌*◌, ◌%◌, ◌^◌, List, [], ◌∷◌, bit_xor}

-- one byte
abbrev pub fnv1a_step : ℕ → ℕ → ℕ
fnv1a_step hash byte = (bit_xor hash byte * 0x01000193) % 2 ^ 32

-- the bytes in order, from a hash on
abbrev pub fnv1a_from : ℕ → List ℕ → ℕ
fnv1a_from hash [] = hash
fnv1a_from hash (byte ∷ bytes) = fnv1a_from (fnv1a_step hash byte) bytes

abbrev pub fnv1a : List ℕ → ℕ
fnv1a = fnv1a_from 0x811c9dc5
