use Rattle.std.proofs.Common.{[], ◌∷◌, inl}
use Rattle.wire_form.specs.Message.{message_of}
use Rattle.replica_world.proofs.calling.ask.Goals as goal

pub returns-in-Ok-clause-ok : goal.returns-in-Ok-clause-ok
returns-in-Ok-clause-ok g c = rw c.number_of.ensures (message_of c.in-Ok.asked.1 ∷ [], c.in-Ok.ensures.ok, inl c.in-Ok.ensures.posted)
