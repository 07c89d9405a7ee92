use Rattle.std.proofs.Common.{[], ◌∷◌, ◌++◌, ◌-◌, ◌^◌, refl, arith}
use Rattle.node_threads.specs.Serving.{lost, not_messages, refused, total, unsent}
use Rattle.node_threads.specs.TimedServing.{Round}
use Rattle.node_threads.proofs.Rounds.{counted, counted_alone, counted_rounds, counted_whole, not_so, round_more}
use Rattle.node_threads.proofs.timed_serving.serve_timed.Goals as goal

pub loop-init : goal.loop-init
loop-init g c =
    let told = c.serve-served.ensures.served in
    let n = c.serve-served.result.delivered in
    let limit = 2 ^ 64 - 1 in (
      c.serve-served.new.post,
      c.serve-served.new.client,
      n,
      told.0,
      [],
      (told.1, told.2, told.3, c.serve-served.ensures.delivered),
      (refl, refl),
      record {
        delivered_is = counted_alone limit n n (counted_whole n (omega (arith, c.serve-served.type_inv)));
        not_messages_is = counted_alone limit (total not_messages told.0) _ told.4;
        refused_is = counted_alone limit (total refused told.0) _ told.5;
        unsent_is = counted_alone limit (total unsent told.0) _ told.6;
        lost_is = counted_alone limit (total lost told.0) _ told.7;
        sent_refused_is = refl;
        sent_unsent_is = refl;
        sent_lost_is = refl;
      },
    )

pub loop-preserved : goal.loop-preserved
loop-preserved g c =
    let receives = g.P.Post.receives in
    let sends = g.P.Post.sends in
    let rests = g.P.Post.rests in
    let ends = g.P.Post.ends in
    let spreads = g.P.TimedPost.spreads in
    let misses = g.P.TimedPost.misses in
    let over = g.P.TimedPost.over in
    let first = g.K.Naming.first in
    let limit = 2 ^ 64 - 1 in
    let was = c.loop.invariant in
    let k = was.2 in
    let turns = was.3 in
    let rounds = was.4 in
    let before = was.7 in
    let sent = c.renew-sent.ensures in
    let told = c.serve-served-in-loop.ensures.served in
    let n = c.serve-served-in-loop.result.delivered in
    let r : Round = record { sent = sent.0; delivered = n; served = told.0 } in
    let served = c.both_served.ensures in
    let all_sent = c.both_sent.ensures in (
      was.0,
      was.1,
      k,
      turns,
      rounds ++ r ∷ [],
      was.5,
      round_more receives sends rests ends spreads misses over first was.0 c.loop.post c.serve-served-in-loop.new.post was.1 c.loop.client
          c.serve-served-in-loop.new.client rounds r was.6 (
            not_so c.is_over.result c.if-is_over.false c.is_over.ensures.told,
            (
              c.renew-sent.new.post,
              c.renew-sent.new.client,
              sent.1,
              (told.1, told.2, told.3, c.serve-served-in-loop.ensures.delivered),
            ),
          ),
      record {
        delivered_is = counted limit k (λ x. x.delivered) rounds r _ _ _ before.delivered_is
            (counted_whole n (omega (arith, c.serve-served-in-loop.type_inv))) served.delivered;
        not_messages_is = counted limit (total not_messages turns) (λ x. total not_messages x.served) rounds r _ _ _ before.not_messages_is told.4
            served.not_messages;
        refused_is = counted limit (total refused turns) (λ x. total refused x.served) rounds r _ _ _ before.refused_is told.5 served.refused;
        unsent_is = counted limit (total unsent turns) (λ x. total unsent x.served) rounds r _ _ _ before.unsent_is told.6 served.unsent;
        lost_is = counted limit (total lost turns) (λ x. total lost x.served) rounds r _ _ _ before.lost_is told.7 served.lost;
        sent_refused_is = counted_rounds limit (λ x. total refused x.sent) rounds r _ _ _ before.sent_refused_is sent.2.0 all_sent.refused;
        sent_unsent_is = counted_rounds limit (λ x. total unsent x.sent) rounds r _ _ _ before.sent_unsent_is sent.2.1 all_sent.unsent;
        sent_lost_is = counted_rounds limit (λ x. total lost x.sent) rounds r _ _ _ before.sent_lost_is sent.2.2 all_sent.lost;
      },
    )
