use Rattle.std.proofs.Common.{◌≡◌, ◌-◌, ◌^◌, min, List}
use Rattle.node_threads.specs.Serving.{CanCome, Serves, TookIn, Turn, lost, not_messages, refused, total, unsent}
use Rattle.node_threads.proofs.serving.serve.Given as goal

abbrev pub invariant-loop : goal.invariant-loop
invariant-loop g l =
    TookIn (CanCome g.P.Post.receives) l.fn.client l.client × (l.begun ≡ l.fn.client.operations)
    × ((steps : List Turn) × Serves g.P.Post.receives g.P.Post.sends g.P.Post.rests g.K.Naming.first l.fn.post l.post l.fn.client l.client steps
    × (l.not_messages ≡ min (total not_messages steps) (2 ^ 64 - 1)) × (l.refused ≡ min (total refused steps) (2 ^ 64 - 1))
    × (l.unsent ≡ min (total unsent steps) (2 ^ 64 - 1)) × (l.lost ≡ min (total lost steps) (2 ^ 64 - 1)))
