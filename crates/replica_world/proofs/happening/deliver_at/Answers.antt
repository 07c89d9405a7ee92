use Rattle.wire_form.specs.Message.{message_of}
use Rattle.replica_model.specs.Mail.{mail_of}
use Rattle.replica_world.specs.Happening.{answer_value}
use Rattle.replica_world.proofs.Refusing.{not_sent, not_read, not_taken, delivery_made, stayed}
use Rattle.replica_world.proofs.Results.{if_ok_weaker, on_err_both, on_ok_from, refused_unless}
use Rattle.replica_world.proofs.Spelt.{posted_adds}
use Rattle.replica_world.proofs.happening.deliver_at.Goals as goal

pub returns-in_default-clause-refused : goal.returns-in_default-clause-refused
returns-in_default-clause-refused g c hash = not_sent hash c.args.replicas.now c.args.replicas.now c.args.posted.now c.args.posted.now c.args.number c.args.name
    c.if-not-contains_key.ensures c.in_default.ensures

pub returns-in-Err-clause-refused : goal.returns-in-Err-clause-refused
returns-in-Err-clause-refused g c hash = not_read hash c.args.replicas.now c.args.replicas.now c.args.posted.now c.args.posted.now c.args.number c.args.name
    c.in-Some.bytes.now c.in-Err.refusal c.if-not-contains_key.ensures c.in-Some.ensures c.in-Err.ensures

pub returns-clause-ok : goal.returns-clause-ok
returns-clause-ok g c =
    if_ok_weaker c.take_at-told.result
    (λ answer made hash. delivery_made hash c.args.replicas.now c.take_at-told.new.replicas c.args.posted.now c.take_at-told.new.posted g.H.PathHash.hash_of
    c.args.number c.args.name c.in-Some.bytes.now (mail_of (message_of c.in-Ok.message)) (answer_value answer) c.in-Some.ensures
    c.in-Ok.ensures made)
    c.take_at-told.ensures.ok

pub returns-clause-adds : goal.returns-clause-adds
returns-clause-adds g c =
    on_ok_from c.take_at-told.result (λ answer (before, after, replaces, (out, steps, posted)). posted_adds c.args.posted.now c.take_at-told.new.posted out posted)
    c.take_at-told.ensures.ok

pub returns-clause-refused : goal.returns-clause-refused
returns-clause-refused g c =
    refused_unless c.take_at-told.result c.take_at-told.ensures.refused
    (λ refusal is hash. not_taken hash c.args.replicas.now c.args.replicas.now c.args.posted.now c.args.posted.now c.args.number c.args.name c.in-Some.bytes.now
    refusal c.if-not-contains_key.ensures c.in-Some.ensures is)

pub returns-clause-unchanged : goal.returns-clause-unchanged
returns-clause-unchanged g c =
    on_err_both c.take_at-told.result (λ stays same hash. stayed hash c.args.replicas.now c.take_at-told.new.replicas c.args.posted.now
    c.take_at-told.new.posted c.args.name stays same) c.take_at-told.ensures.unchanged c.take_at-told.ensures.unposted
