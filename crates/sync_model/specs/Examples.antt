-- A worked example of what an asker comes to hold at a key, of this project. What is said of it stands in src/examples.rt.
use Rattle.std.specs.Prelude.{ℕ, Bool, [], ◌∷◌, codes}
use Rattle.dots.specs.declared.dot.Dot.{Dot}
use Rattle.causal_join.specs.OrMap.{FieldsValue}
use Rattle.op_model.specs.Operation.{has}

abbrev pub dot : ℕ → ℕ → Dot
dot name number = record { name = name; number = number }

-- the asker had seen 1:1 and 1:2, and holds x under 1:1 at the empty field: it saw what was written under 1:2 end
abbrev pub seen : Dot → Bool
seen = has (dot 1 1 ∷ dot 1 2 ∷ [])

abbrev pub own : FieldsValue
own = ([], (dot 1 1, codes "x") ∷ []) ∷ []

-- its peer holds y under 1:2 still, and z under 2:1, which the asker had not seen
abbrev pub theirs : FieldsValue
theirs = ([], (dot 1 1, codes "x") ∷ (dot 1 2, codes "y") ∷ (dot 2 1, codes "z") ∷ []) ∷ []

-- another peer holds what ended, and nothing else
abbrev pub ended : FieldsValue
ended = ([], (dot 1 2, codes "y") ∷ []) ∷ []

-- what the asker comes to hold of the first
abbrev pub opened : FieldsValue
opened = ([], (dot 1 1, codes "x") ∷ (dot 2 1, codes "z") ∷ []) ∷ []
