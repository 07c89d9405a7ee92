use Rattle.std.proofs.Common.{ap, sym, ◌∙◌, subst}
use Rattle.std.specs.Option.{option_map}
use Rattle.hash_path.specs.Fnv1a.{fnv1a}
use Rattle.replica_model.specs.World.{nothing, Runs}
use Rattle.replica_world.specs.Held.{events_of}
use Rattle.trace_words.specs.Command.{command_of}
use Rattle.trace_words.specs.Parsed.{command_value}
use Rattle.trace_world.specs.Line.{Past}
use Rattle.trace_world.proofs.Lines.{brings_line}
use Rattle.trace_world.proofs.machine.Machine.attempt.Goals as goal

pub returns-in-Some : goal.returns-in-Some
returns-in-Some g c =
    let world = c.moment.ensures.runs in
    brings_line c.args.self.now c.obey.new.self world.0 (command_value c.in-Some.command) (command_of c.args.line.now) c.obey.result
    (subst (λ (p : Past). Runs fnv1a nothing (events_of p.held) world.0) c.self.view_is world.1)
    (sym (ap (option_map command_value) c.in-Some.is) ∙ c.in_ok-command.ensures.ok) c.obey.ensures
