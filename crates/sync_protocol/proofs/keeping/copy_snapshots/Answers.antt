use Rattle.std.proofs.Common.{refl}
use Rattle.sync_protocol.proofs.Copied.{one_more}
use Rattle.sync_protocol.proofs.keeping.copy_snapshots.Goals as goal

pub loop-session-preserved : goal.loop-session-preserved
loop-session-preserved g c =
    one_more c.in-Some.session.now c.in-Some.snapshot.now c.next.new.self c.args.kept.now.entries c.loop-session.copies.entries c.add_copy.new.copies.entries
    c.loop-session.session-iterator c.in-Some.snapshot.now
    c.iter-session-items.ensures.unique c.loop-session.invariant c.in-Some.ensures.steps refl c.in_default.ensures.ok
