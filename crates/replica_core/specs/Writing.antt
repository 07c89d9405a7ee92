-- What a write, its answer, and a call are in the words of the model. Of this project.
use Rattle.op_model.specs.Place.{place_of}
use Rattle.replica_model.specs.Step as step
use Rattle.replica_model.specs.Step.{Answer, Call}
use Rattle.replica_core.specs.declared.call.Call as calls
use Rattle.replica_core.specs.declared.call.Call.TheVariants as call
use Rattle.replica_core.specs.declared.write.Write.{Write}
use Rattle.replica_core.specs.declared.write.Write.TheVariants as write
use Rattle.replica_core.specs.declared.wrote.Wrote.{Wrote}
use Rattle.replica_core.specs.declared.wrote.Wrote.TheVariants as wrote

-- a call
abbrev pub call_value : {A : Type 0} → calls.Call A → Call
call_value (call.Put key field value) = step.Put (place_of key field) value
call_value (call.Remove key) = step.Remove key
call_value (call.RemoveField key field) = step.RemoveField (place_of key field)
call_value call.Clear = step.Clear
call_value call.Flush = step.Flush
call_value (call.Ask peer) = step.Ask peer
call_value (call.Retry number) = step.Retry number
call_value (call.Abandon number) = step.Abandon number

-- a write, as a call
abbrev pub as_call : {A : Type 0} → Write A → calls.Call A
as_call (write.Put key field value) = call.Put key.now field.now value.now
as_call (write.Remove key) = call.Remove key.now
as_call (write.RemoveField key field) = call.RemoveField key.now field.now
as_call write.Clear = call.Clear

abbrev pub call_of : {A : Type 0} → Write A → Call
call_of w = call_value (as_call w)

-- what it is answered
abbrev pub answer_of : Wrote → Answer
answer_of (wrote.Made dot) = step.Made dot
answer_of (wrote.Counted number) = step.Counted number
