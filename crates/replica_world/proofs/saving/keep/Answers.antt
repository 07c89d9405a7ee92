use Rattle.std.proofs.Common.{IsSome, refl, subst}
use Rattle.replica_world.proofs.Recovered.{noted_at, notes_past}
use Rattle.replica_world.proofs.saving.keep.Goals as goal

pub returns-clause-notes : goal.returns-clause-notes
returns-clause-notes g c =
    let was = c.in-Some-get_mut.ensures.value in
    let updates = (c.get_mut.follows.holds c.note.new.found).3 (subst IsSome was refl) in
    notes_past c.args.replicas.now c.args.kept.now c.make_place.new.kept (c.get_mut.follows.lender c.note.new.found)
    c.in_ok-make_place.ensures.saves c.in_ok-make_place.ensures.checkpoints
    (noted_at c.make_place.new.kept (c.get_mut.follows.lender c.note.new.found)
    c.args.name c.note.new.found updates c.in-Some-get_mut.found.now was c.args.replicas.now c.in-Some.replica.now c.in-Some.ensures.value
    c.note.ensures.saves c.note.ensures.noted)
