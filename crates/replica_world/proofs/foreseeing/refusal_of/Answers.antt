use Rattle.replica_core.specs.Meaning.{meaning}
use Rattle.replica_world.proofs.Refusing.{put_foretold, ask_foretold}
use Rattle.replica_world.proofs.foreseeing.refusal_of.Goals as goal

pub returns-in-Put : goal.returns-in-Put
returns-in-Put g c = put_foretold (meaning c.args.replica.now) c.put_refusal.result c.put_refusal.ensures c.in-Put.is

pub returns-in-Ask : goal.returns-in-Ask
returns-in-Ask g c = ask_foretold (meaning c.args.replica.now) c.ask_refusal.result c.ask_refusal.ensures c.in-Ask.is
