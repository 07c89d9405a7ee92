-- What is made of the parts of a page one after the other: what a part makes comes behind what was made, and before what the rest
-- makes of the values that are left. Of this project.
use Rattle.std.specs.Prelude.{◌≡◌, Bool, true, false, ℕ, List, ◌++◌, Option, Some, None, cond}
use Rattle.dots.specs.Dot.{DotValue}
use Rattle.causal_join.specs.OrMap.{ValuesValue}
use Rattle.sync_model.specs.Filled.{Made, made_map, fill_seen, fill_unseen}

-- what was made, with the values that are left
abbrev pub made_of : {X : Type 0} → Option X → List (List ℕ) → Made X
made_of None left = None
made_of (Some x) left = Some (x, left)

-- Whether a part is what it should be. Then what it makes is put behind what was made, and comes before what the rest makes of
-- the values that are left; else nothing is made of the page.
abbrev pub AddsPart : {X : Type 0} → Bool → List X → List X → ((List (List ℕ) → Made (List X)) → Made (List X)) → List (List ℕ) → Type 0
AddsPart {X} true old new part left = (more : List X) × (new ≡ old ++ more)
    × ((rest : List (List ℕ) → Made (List X)) → part rest ≡ made_map (λ xs. more ++ xs) (rest left))
AddsPart {X} false old new part left = (rest : List (List ℕ) → Made (List X)) → part rest ≡ None

-- one dot with its name, by what the asker holds there
abbrev pub fill_dot : (DotValue → Bool) → (DotValue → Option (List ℕ)) → DotValue × List ℕ → List (List ℕ) → (List (List ℕ) → Made ValuesValue)
    → Made ValuesValue
fill_dot seen held n sent rest = cond (seen n.0) (fill_seen n.0 n.1 (held n.0) rest sent) (fill_unseen n.0 n.1 rest sent)
