use Rattle.std.proofs.Common.{take}
use Rattle.node_threads.specs.Serving.{AreSent}
use Rattle.node_threads.proofs.serving.send_all.Given as goal

abbrev pub invariant-loop-reply : goal.invariant-loop-reply
invariant-loop-reply g l = AreSent g.P.Post.receives g.P.Post.sends g.P.Post.rests l.fn.post l.post (take l.reply-index l.replies) l.unsent l.lost
