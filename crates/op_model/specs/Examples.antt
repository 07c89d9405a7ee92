-- Worked examples of sets of operations and of worlds, of this project. What is said of them stands in src/examples.rt.
use Rattle.std.specs.Prelude.{List, [], ◌∷◌, ◌++◌, ℕ, codes}
use Rattle.dots.specs.declared.dot.Dot.{Dot}
use Rattle.op_model.specs.Place.{place_of, plain}
use Rattle.op_model.specs.Operation.{Operation, Wrote, Erased}
use Rattle.op_model.specs.World.{AbstractEvent, Node, Put, Remove, RemoveField, Clear, Flush, Deliver}

abbrev pub a : List ℕ
a = codes "a"

abbrev pub b : List ℕ
b = codes "b"

abbrev pub f : List ℕ
f = codes "f"

abbrev pub x : List ℕ
x = codes "x"

abbrev pub y : List ℕ
y = codes "y"

abbrev pub z : List ℕ
z = codes "z"

-- the dot written name:number
abbrev pub dot : ℕ → ℕ → Dot
dot name number = record { name = name; number = number }

-- a write of this dot, key, field and value, which observed these
abbrev pub wrote_field : Dot → List ℕ → List ℕ → List ℕ → List Dot → Operation
wrote_field id key field value over = Wrote (record { id = id; place = place_of key field; value = value; over = over })

-- the same at the empty field
abbrev pub wrote : Dot → List ℕ → List ℕ → List Dot → Operation
wrote id key value over = wrote_field id key [] value over

-- y put on a after x was seen there
abbrev pub overwritten : List Operation
overwritten = wrote (dot 1 1) a x [] ∷ wrote (dot 2 1) a y (dot 1 1 ∷ []) ∷ []

-- y and then x put on a, neither seen by the other
abbrev pub side_by_side : List Operation
side_by_side = wrote (dot 1 1) a y [] ∷ wrote (dot 2 1) a x [] ∷ []

-- x put on a twice, neither seen by the other
abbrev pub equal_values : List Operation
equal_values = wrote (dot 1 1) a x [] ∷ wrote (dot 2 1) a x [] ∷ []

-- x put on a, and removed; the operations came in the other order
abbrev pub removed : List Operation
removed = Erased (dot 1 1 ∷ []) ∷ wrote (dot 1 1) a x [] ∷ []

-- x put on a and on b under one dot
abbrev pub reused : List Operation
reused = wrote (dot 1 1) a x [] ∷ wrote (dot 1 1) b x [] ∷ []

-- y put on a, and x on the field f of a
abbrev pub two_fields : List Operation
two_fields = wrote (dot 2 1) a y [] ∷ wrote_field (dot 1 1) a f x [] ∷ []

-- x put on a and on the field f of a
abbrev pub equal_fields : List Operation
equal_fields = wrote (dot 1 1) a x [] ∷ wrote_field (dot 1 2) a f x [] ∷ []

-- Worlds. Two replicas put on one key before either has heard of the other.
abbrev pub concurrent_puts : List AbstractEvent
concurrent_puts = Node 1 ∷ Node 2 ∷ Put 1 (plain a) x ∷ Put 2 (plain a) y ∷ Flush 1 ∷ Flush 2 ∷ Deliver 1 2 ∷ Deliver 2 1 ∷ []

-- One of them then overwrites both values.
abbrev pub overwrite_both : List AbstractEvent
overwrite_both = concurrent_puts ++ Put 1 (plain a) z ∷ Flush 1 ∷ Deliver 3 2 ∷ []

-- A replica hears of a remove before it hears of the put that was removed.
abbrev pub remove_overtakes : List AbstractEvent
remove_overtakes = Node 1 ∷ Node 2 ∷ Node 3 ∷ Put 1 (plain a) x ∷ Flush 1 ∷ Deliver 1 2 ∷ Remove 2 a ∷ Flush 2 ∷ Deliver 2 3 ∷ []

abbrev pub remove_overtakes_put : List AbstractEvent
remove_overtakes_put = remove_overtakes ++ Deliver 1 3 ∷ Deliver 2 1 ∷ Remove 1 a ∷ Flush 1 ∷ []

-- A remove and a put that have not seen each other, and then a clear.
abbrev pub remove_and_put : List AbstractEvent
remove_and_put = Node 1 ∷ Node 2 ∷ Put 1 (plain a) x ∷ Flush 1 ∷ Deliver 1 2
    ∷ Remove 1 a ∷ Put 2 (plain a) y ∷ Flush 1 ∷ Flush 2 ∷ Deliver 2 2 ∷ Deliver 3 1 ∷ []

abbrev pub clear_and_group : List AbstractEvent
clear_and_group = remove_and_put ++ Clear 1 ∷ Flush 1 ∷ Deliver 4 2 ∷ []

-- Replica 1 puts on a field while replica 2 puts on the key; then 2 overwrites the field while 1 removes it.
abbrev pub fields_apart : List AbstractEvent
fields_apart = Node 1 ∷ Node 2 ∷ Put 1 (place_of a f) x ∷ Put 2 (plain a) y ∷ Flush 1 ∷ Flush 2 ∷ Deliver 1 2 ∷ Deliver 2 1 ∷ []

abbrev pub field_removed : List AbstractEvent
field_removed = fields_apart ++ Put 2 (place_of a f) z ∷ RemoveField 1 (place_of a f) ∷ Flush 2 ∷ Flush 1 ∷ Deliver 3 1 ∷ Deliver 4 2 ∷ []

abbrev pub key_removed : List AbstractEvent
key_removed = field_removed ++ Remove 1 a ∷ []
