-- How a run can end. Of this project.
use Rattle.std.specs.Prelude.{Bool, true, false}
use Rattle.dots.specs.declared.refusal.Refusal.{Refusal}
use Rattle.dots.specs.declared.refusal.Refusal.TheVariants.{OutOfMemory, NameTaken, UnknownReplica, UnknownMessage, BadLine, Input, Output}

-- whether a refusal is a fault, which ends a trace with a line that tells it
abbrev pub is_fault : Refusal → Bool
is_fault NameTaken = true
is_fault UnknownReplica = true
is_fault UnknownMessage = true
is_fault BadLine = true
is_fault other = false

-- whether a refusal can end a run: a fault, or a failure of the run itself
abbrev pub ends_run : Refusal → Bool
ends_run OutOfMemory = true
ends_run Input = true
ends_run Output = true
ends_run other = is_fault other
