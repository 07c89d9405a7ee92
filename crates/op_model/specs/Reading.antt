-- A state read at other places, of this project: each place of the one stands for a place of the other. So a store whose
-- places are pairs of a key and nothing more is read as one whose places are keys.
-- Example: {(a, ()) -> {1:1 -> x}} read at keys is {a -> {1:1 -> x}}.
use Rattle.op_model.specs.State.{State}

abbrev pub read_at : {P Q H : Type 0} → (Q → P) → State P H → State Q H
read_at place_of p = record { at = λ place dot. p.at (place_of place) dot; has = p.has }
