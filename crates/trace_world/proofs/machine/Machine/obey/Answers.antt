use Rattle.trace_words.specs.Parsed.{command_value}
use Rattle.trace_world.proofs.Pinning.{at_world, at_world_command}
use Rattle.trace_world.proofs.machine.Machine.obey.Goals as goal

pub returns-in_default : goal.returns-in_default
returns-in_default g c =
    rw (← c.self.view_is) (at_world (command_value c.args.command) c.self.inside.teller c.obey.new.self c.self.inside.pins.items c.obey.result
    (at_world_command c.args.command c.in_default.not-Pin c.in_default.not-Look) c.obey.ensures)
