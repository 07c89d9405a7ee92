-- What is told of a write before it is made.
use Rattle.std.specs.Prelude.{List, ℕ, Option}
use Rattle.dots.specs.declared.refusal.Refusal.{Refusal}
use Rattle.op_model.specs.Place.{Place, place_of}
use Rattle.replica_model.specs.Replica.{Replica}
use Rattle.replica_model.specs.Step.{Put}
use Rattle.replica_core.specs.declared.write.Write.{Write}
use Rattle.replica_core.specs.declared.write.Write.TheVariants as write
use Rattle.replica_core.specs.Stepping.{Foretells}
use Rattle.replica_core.specs.Writing.{call_of}

abbrev pub IsPut : {A : Type 0} → Write A → Type 0
IsPut (write.Put key field value) = Unit {0}
IsPut other = ⊥

pub put_foretold : {A : Type 0} (r : Replica) (told : Option Refusal) (w : Write A) → IsPut w
    → ((place : Place) (value : List ℕ) → Foretells r (Put place value) told) → Foretells r (call_of w) told
put_foretold r told (write.Put key field value) is all = all (place_of key.now field.now) value.now
put_foretold r told (write.Remove key) is all = absurd is
put_foretold r told (write.RemoveField key field) is all = absurd is
put_foretold r told write.Clear is all = absurd is
