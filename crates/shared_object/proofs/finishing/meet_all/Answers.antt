use Rattle.std.proofs.Common.{◌<◌, get_or, length, arith, rules}
use Rattle.std.proofs.lemmas.Option.{slice_get_within}
use Rattle.shared_object.specs.Finishing.{IsOwn}
use Rattle.shared_object.proofs.Meeting.{get_at, own_more, rest_more}
use Rattle.shared_object.proofs.finishing.meet_all.Goals as goal

pub loop-client-preserved : goal.loop-client-preserved
loop-client-preserved g c =
    let within : c.loop-client.client-index < length c.loop-client.clients = search rules in
    let it = get_or c.loop-client.clients c.loop-client.client-index c.client-item.result in
    let here = get_at c.loop-client.clients c.loop-client.client-index c.client-item.result within in
    record {
      own =
          own_more c.args.clients.now c.loop-client.clients c.loop-client.client-index it here c.loop-client.invariant.rest
          (IsOwn g.J.Event.Placed.place c.args.guarded.now) (c.meet.ensures.own c.if-not-meet.false) c.loop-client.invariant.own;
      rest = rest_more c.args.clients.now c.loop-client.clients c.loop-client.client-index it here c.loop-client.invariant.rest c.meet.new.self;
    }

pub returns : goal.returns
returns g c is i s there =
    let within = slice_get_within c.args.clients.now i s there in
    c.loop-client.invariant.own i s (omega (arith, within)) there
