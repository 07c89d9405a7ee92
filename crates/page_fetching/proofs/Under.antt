-- A key is under a prefix where the prefix covers its hash.
use Rattle.std.proofs.Common.{◌≡◌, ℕ, ◌≤◌, List, length, Bool, true, false, refl, sym, ◌∙◌, ap}
use Rattle.std.specs.Prelude.{◌↔◌, IsTrue}
use Rattle.hash_path.specs.Path.{indices}
use Rattle.hash_path.specs.Word.{begins}
use Rattle.hash_path.specs.Map.{path}
use Rattle.hash_path.proofs.Parts.{begins-path}

both_ways : (a b : Bool) → (a ≡ true → b ≡ true) → (b ≡ true → a ≡ true) → a ≡ b
both_ways true b there back = sym (there refl)
both_ways false true there back = back refl
both_ways false false there back = refl

pub under_is : (f : List ℕ → ℕ) (p key : List ℕ) (hash : ℕ) (covers : Bool) → length p ≤ 7 → hash ≡ f key → (IsTrue covers ↔ (indices (length p) hash ≡ p))
    → covers ≡ begins p (path f key)
under_is f p key hash covers short is h =
    both_ways covers (begins p (path f key)) (λ t. (begins-path f p key short).1 (ap (indices (length p)) (sym is) ∙ h.0 t))
    (λ t. h.1 (ap (indices (length p)) is ∙ (begins-path f p key short).0 t))
