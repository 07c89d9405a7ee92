-- What is written item by item.
use Rattle.std.proofs.Common.{◌≡◌, ◌++◌, ◌∷◌, [], ◌∙◌, ◌<◌, ◌+◌, ℕ, List, length, take, get_or, ap, sym}
use Rattle.std.proofs.lemmas.List.{flat_map_more, take_more}
use Rattle.std.specs.List.{flat_map}

-- after the first `i` items comes the item at `i`
pub one_more : {X A : Type 0} (f : X → List A) (begin now then : List A) (xs : List X) (i : ℕ) (d x : X) → i < length xs → x ≡ get_or xs i d
    → now ≡ begin ++ flat_map f (take i xs) → then ≡ now ++ f x → then ≡ begin ++ flat_map f (take (i + 1) xs)
one_more f begin now then xs i d x small same is was =
    was ∙ ap (λ items. items ++ f x) is ∙ flat_map_more f begin (take i xs) x
    ∙ ap (λ items. begin ++ flat_map f items) (ap (λ y. take i xs ++ y ∷ []) same ∙ sym (take_more xs i d small))
