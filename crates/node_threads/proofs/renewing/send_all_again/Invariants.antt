use Rattle.std.proofs.Common.{◌≡◌, ◌-◌, ◌^◌, min, map, take, List}
use Rattle.node_threads.specs.Renewing.{AreSentAgain}
use Rattle.node_threads.specs.Serving.{Turn, lost, refused, total, unsent}
use Rattle.node_threads.proofs.renewing.send_all_again.Given as goal

abbrev pub invariant-loop-session : goal.invariant-loop-session
invariant-loop-session g l =
    (steps : List Turn) × AreSentAgain g.P.Post.receives g.P.Post.sends g.P.Post.rests g.K.Naming.first l.fn.post l.post l.fn.client l.client
    (map (λ s. s.number) (take l.session-index l.sessions)) steps × (l.refused ≡ min (total refused steps) (2 ^ 64 - 1))
    × (l.unsent ≡ min (total unsent steps) (2 ^ 64 - 1)) × (l.lost ≡ min (total lost steps) (2 ^ 64 - 1))
