-- What a line of a trace is answered. Of this project.
use Rattle.std.specs.Prelude.{ℕ, cond, List, ◌++◌, codes, Result, Ok, Err}
use Rattle.std.specs.declared.vec.Vec.{Vec}
use Rattle.dots.specs.Refusal.{word_of}
use Rattle.dots.specs.declared.refusal.Refusal.{Refusal}
use Rattle.trace_words.specs.Fault.{is_fault}

-- nothing, a line of text, or a fault that ends the trace
pub data LineAnswer : Type 0 where
  Silent : LineAnswer
  Told : List ℕ → LineAnswer
  Faulted : Refusal → LineAnswer

-- what a refusal is answered: one that is no fault is told
abbrev pub refused_as : Refusal → LineAnswer
refused_as refusal = cond (is_fault refusal) (Faulted refusal) (Told (codes "refused " ++ word_of refusal))

-- what a command is answered that came to this
abbrev pub answered_as : {A : Type 0} → Result (Vec ℕ A) Refusal → LineAnswer
answered_as (Ok text) = Told text.items
answered_as (Err refusal) = refused_as refusal
