-- The bytes of a branch's children, each index in one byte.
use Rattle.std.proofs.Common.{◌≡◌, ℕ, suc, ◌+◌, ◌<◌, ◌%◌, List, [], ◌∷◌, ◌++◌, length, take, get_or, map, refl, sym, ap, ◌∙◌, arith}
use Rattle.std.proofs.lemmas.List.{map-append}
use Rattle.std.proofs.Math.Seq.{take-suc}
use Rattle.std.specs.List.{flat_map}
use Rattle.hash_path.specs.Fan.{Rise}
use Rattle.wire_form.specs.Page.{child}
use Rattle.prefix_digest.specs.declared.sha_summary.ShaSummary.{ShaSummary}

abbrev pub child_bytes : ℕ × ShaSummary → List ℕ
child_bytes c = c.0 % 256 ∷ c.1.digest

abbrev pub told : ℕ × ShaSummary → ℕ × List ℕ
told c = (c.0, c.1.digest)

pub bytes_are : (low : ℕ) (cs : List (ℕ × ShaSummary)) → Rise low cs → flat_map child_bytes cs ≡ flat_map child (map told cs)
bytes_are low [] rise = refl
bytes_are low (c ∷ cs) rise =
    let bound : c.0 < 32 = rise.1 in
    let index : c.0 % 256 ≡ c.0 = omega (arith, bound) in
    let rest = bytes_are (suc c.0) cs rise.2 in
    λ i. (index i ∷ c.1.digest) ++ rest i

pub map_itself : {X : Type 0} (xs : List X) → map (λ x. x) xs ≡ xs
map_itself [] = refl
map_itself (x ∷ xs) = ap (λ l. x ∷ l) (map_itself xs)

-- the elements that a loop has gone through, and one more
pub one_taken : {X Y : Type 0} (shows : X → Y) (xs : List X) (at : ℕ) (x : X) → at < length xs → x ≡ get_or xs at x
    → map shows (take (at + 1) xs) ≡ map shows (take at xs) ++ shows x ∷ []
one_taken shows xs at x within is =
    let next : at + 1 ≡ suc at = omega arith in
    ap (map shows) (ap (λ n. take n xs) next ∙ take-suc xs at x within ∙ ap (λ y. take at xs ++ y ∷ []) (sym is)) ∙ map-append shows (take at xs) (x ∷ [])
