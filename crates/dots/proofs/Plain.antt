-- A text that is printed as itself is ASCII.
use Rattle.std.proofs.Common.{◌≡◌, ℕ, ◌<◌, ◌&&◌, ◌==◌, not, slice_index, zero, suc, Bool, true, false, List, [], ◌∷◌, refl, arith}
use Rattle.std.specs.List.{list_all}
use Rattle.std.specs.Str.{IsUtf8}
use Rattle.std.proofs.lemmas.Bool.Decides.{nat_tests}
use Rattle.std.proofs.lemmas.Str.{IsUtf8-from_ascii}
use Rattle.dots.specs.Printed.{is_visible, is_plain}

visible_below : (byte : ℕ) → is_visible byte ≡ true → byte < 128
visible_below byte h = grind (arith, nat_tests)

both : (a b : Bool) → (a && b) ≡ true → (a ≡ true) × (b ≡ true)
both true b h = (refl, h)
both false b h = cc

all_below : (bytes : List ℕ) → list_all is_visible bytes ≡ true → (i : ℕ) → slice_index bytes i < 128
all_below [] h i = omega arith
all_below (byte ∷ bytes) h zero = visible_below byte (both (is_visible byte) (list_all is_visible bytes) h).0
all_below (byte ∷ bytes) h (suc i) = all_below bytes (both (is_visible byte) (list_all is_visible bytes) h).1 i

pub plain_utf8 : (bytes : List ℕ) → is_plain bytes ≡ true → IsUtf8 bytes
plain_utf8 [] h = cc
plain_utf8 (byte ∷ bytes) h =
    IsUtf8-from_ascii (byte ∷ bytes) (all_below (byte ∷ bytes) (both (not (byte == 35)) (list_all is_visible (byte ∷ bytes)) h).1)
