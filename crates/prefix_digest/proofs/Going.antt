-- A walk under way: what was made of the items so far, and what is left.
use Rattle.std.proofs.Common.{◌≡◌, List, [], ◌∷◌, ◌++◌, map, sym, ap, ◌∙◌, append_assoc}
use Rattle.std.specs.List.{flat_map}
use Rattle.std.proofs.lemmas.List.{append-nil}

module _ {X Y : Type 0} (made : X → Y) where
  -- each item makes one
  pub one_more_made : (old new : List Y) (left more all : List X) (x : X) (y : Y) → old ++ map made left ≡ map made all → left ≡ x ∷ more → y ≡ made x
      → new ≡ old ++ y ∷ [] → new ++ map made more ≡ map made all
  one_more_made old new left more all x y was is one now =
      ap (λ l. l ++ map made more) (now ∙ ap (λ z. old ++ z ∷ []) one) ∙ append_assoc old (made x ∷ []) (map made more)
      ∙ ap (λ l. old ++ map made l) (sym is) ∙ was

  pub all_made : (now : List Y) (left all : List X) → now ++ map made left ≡ map made all → left ≡ [] → now ≡ map made all
  all_made now left all was is = sym (append-nil now) ∙ ap (λ l. now ++ map made l) (sym is) ∙ was

module _ {X Y : Type 0} (made : X → List Y) where
  -- each item makes some
  pub some_more_made : (old new : List Y) (left more all : List X) (x : X) → old ++ flat_map made left ≡ flat_map made all → left ≡ x ∷ more
      → new ≡ old ++ made x → new ++ flat_map made more ≡ flat_map made all
  some_more_made old new left more all x was is now =
      ap (λ l. l ++ flat_map made more) now ∙ append_assoc old (made x) (flat_map made more) ∙ ap (λ l. old ++ flat_map made l) (sym is) ∙ was

  pub all_some_made : (now : List Y) (left all : List X) → now ++ flat_map made left ≡ flat_map made all → left ≡ [] → now ≡ flat_map made all
  all_some_made now left all was is = sym (append-nil now) ∙ ap (λ l. now ++ flat_map made l) (sym is) ∙ was
