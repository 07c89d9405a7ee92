use Rattle.replica_core.specs.Writing.{call_value}
use Rattle.replica_world.specs.Happening.{answer_value}
use Rattle.replica_world.proofs.Refusing.{no_peer, call_made, call_unmade, left}
use Rattle.replica_world.proofs.Results.{if_ok_weaker, if_err_weaker, on_err_both, on_ok_from}
use Rattle.replica_world.proofs.Spelt.{posted_adds}
use Rattle.replica_world.proofs.happening.call_at.Goals as goal

pub returns-then-not-has_peer-clause-refused : goal.returns-then-not-has_peer-clause-refused
returns-then-not-has_peer-clause-refused g c hash = no_peer hash c.args.replicas.now c.args.replicas.now c.args.posted.now c.args.posted.now c.args.name
    (call_value c.args.call.now) (λ w keeps. c.if-not-has_peer.ensures hash c.args.posted.now w keeps)

pub returns-clause-ok : goal.returns-clause-ok
returns-clause-ok g c =
    if_ok_weaker c.make_at.result
    (λ answer made hash. call_made hash c.args.replicas.now c.make_at.new.replicas c.args.posted.now c.make_at.new.posted g.H.PathHash.hash_of c.args.name
    (call_value c.args.call.now) (answer_value answer) (λ w keeps. c.if-not-has_peer.ensures hash c.args.posted.now w keeps) made)
    c.make_at.ensures.ok

pub returns-clause-adds : goal.returns-clause-adds
returns-clause-adds g c =
    on_ok_from c.make_at.result (λ answer (before, after, replaces, (out, steps, posted)). posted_adds c.args.posted.now c.make_at.new.posted out posted)
    c.make_at.ensures.ok

pub returns-clause-refused : goal.returns-clause-refused
returns-clause-refused g c =
    if_err_weaker c.make_at.result
    (λ refusal refused hash. call_unmade hash c.args.replicas.now c.make_at.new.replicas c.args.posted.now c.make_at.new.posted c.args.name
    (call_value c.args.call.now) refusal (λ w keeps. c.if-not-has_peer.ensures hash c.args.posted.now w keeps) refused)
    c.make_at.ensures.refused

pub returns-clause-unchanged : goal.returns-clause-unchanged
returns-clause-unchanged g c =
    on_err_both c.make_at.result (λ stays same hash. left hash c.args.replicas.now c.make_at.new.replicas c.args.posted.now c.make_at.new.posted c.args.name
    stays same) c.make_at.ensures.unchanged c.make_at.ensures.unposted
