use Rattle.std.proofs.Common.{refl}
use Rattle.dots.specs.declared.refusal.Refusal.TheVariants.{OutOfMemory}
use Rattle.replica_world.proofs.Happened.{node_keeps, absent_from}
use Rattle.replica_world.proofs.Refusing.{entries_stay, no_room}
use Rattle.replica_world.proofs.happening.add.Goals as goal

pub returns-in-Err-clause-refused : goal.returns-in-Err-clause-refused
returns-in-Err-clause-refused g c messages =
    no_room c.args.hash c.args.replicas.now c.args.replicas.now messages messages c.args.name OutOfMemory c.if-contains_key.ensures refl

pub returns-in-Err-clause-unchanged : goal.returns-in-Err-clause-unchanged
returns-in-Err-clause-unchanged g c messages = entries_stay c.args.hash c.args.replicas.now c.insert.new.self messages c.in-Err.ensures.err

pub returns-in-Ok-clause-ok : goal.returns-in-Ok-clause-ok
returns-in-Ok-clause-ok g c messages w keeps =
    node_keeps c.args.hash c.args.replicas.now c.insert.new.self messages w keeps c.args.name c.new.result (absent_from _ c.if-contains_key.ensures)
    c.in-Ok.ensures.updates c.new.ensures.fresh c.new.ensures.hash g.H.PathHash.hash_of
