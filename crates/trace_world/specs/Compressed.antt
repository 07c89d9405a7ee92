-- The known dots of a set as a version vector and a cloud, after Almeida, Shoker and Baquero, "Delta State Replicated Data
-- Types" (2018): the vector has for each name the number up to which all its dots are known, and the cloud has the
-- other dots.
-- Example: the dots 1:1, 1:2, 1:4 and 2:3 are the vector 1:2 and the cloud 1:4, 2:3.
use Rattle.std.specs.Prelude.{ℕ, zero, suc, nat_lt, ◌&&◌, Bool, true, cond, List, [], ◌∷◌}
use Rattle.std.specs.BTreeSet.{insert_key}
use Rattle.std.specs.List.{filter}
use Rattle.std.specs.Ordering.{nat_cmp}
use Rattle.causal_context.specs.Dots.{dot_cmp}
use Rattle.dots.specs.Dot.{DotValue}
use Rattle.op_model.specs.Made.{greatest_number}
use Rattle.op_model.specs.Operation.{has}

-- whether all dots of the name from 1 up to this number are among these
abbrev pub has_up_to : List DotValue → ℕ → ℕ → Bool
has_up_to dots name zero = true
has_up_to dots name (suc n) = has dots (record { name = name; number = suc n }) && has_up_to dots name n

-- the greatest number, up to this one, up to which all dots of the name are among these
abbrev pub run_within : List DotValue → ℕ → ℕ → ℕ
run_within dots name zero = zero
run_within dots name (suc n) = cond (has_up_to dots name (suc n)) (suc n) (run_within dots name n)

-- the entry of the name: the number up to which all its dots are among these
abbrev pub run_of : List DotValue → ℕ → ℕ
run_of dots name = run_within dots name (greatest_number name dots)

-- the names of these dots, ascending, each once
abbrev pub names_of : List DotValue → List ℕ
names_of [] = []
names_of (dot ∷ dots) = insert_key nat_cmp (names_of dots) dot.name

-- the entries of these names: none where it is 0
abbrev pub with_entry : ℕ → ℕ → List (ℕ × ℕ) → List (ℕ × ℕ)
with_entry name zero entries = entries
with_entry name (suc n) entries = (name, suc n) ∷ entries

abbrev pub run_entries : List DotValue → List ℕ → List (ℕ × ℕ)
run_entries dots [] = []
run_entries dots (name ∷ names) = with_entry name (run_of dots name) (run_entries dots names)

-- the version vector of these dots
abbrev pub vector_of : List DotValue → List (ℕ × ℕ)
vector_of dots = run_entries dots (names_of dots)

-- these dots in their order, each once
abbrev pub in_order : List DotValue → List DotValue
in_order [] = []
in_order (dot ∷ dots) = insert_key dot_cmp (in_order dots) dot

-- the cloud of these dots
abbrev pub cloud_of : List DotValue → List DotValue
cloud_of dots = filter (λ dot. nat_lt (run_of dots dot.name) dot.number) (in_order dots)
