use Rattle.node_threads.specs.TimedServing.{ServesTimed}
use Rattle.node_threads.proofs.timed_serving.serve_timed.Given as goal

abbrev pub invariant-loop : goal.invariant-loop
invariant-loop g l =
    ServesTimed g.P.Post.receives g.P.Post.sends g.P.Post.rests g.P.Post.ends g.P.TimedPost.spreads g.P.TimedPost.misses g.P.TimedPost.over g.K.Naming.first
    l.fn.post l.post l.fn.client l.client l.told
