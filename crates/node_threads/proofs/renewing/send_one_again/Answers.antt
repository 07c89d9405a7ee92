use Rattle.std.proofs.Common.{subst}
use Rattle.node_threads.specs.Serving.{AreSent}
use Rattle.node_threads.proofs.renewing.send_one_again.Goals as goal

pub send_all-missed-requires : goal.send_all-missed-requires
send_all-missed-requires g c = c.deref.type_inv.0

pub returns-in-Ok-clause-sent : goal.returns-in-Ok-clause-sent
returns-in-Ok-clause-sent g c = (
  _,
  c.in-Ok.told.replies.items,
  c.in-Ok.ensures.retried,
  subst (λ replies. AreSent g.P.Post.receives g.P.Post.sends g.P.Post.rests c.args.post.now c.send_all-missed.new.post replies
      c.send_all-missed.result.unsent c.send_all-missed.result.lost)
      c.deref.ensures.value c.send_all-missed.ensures,
)
