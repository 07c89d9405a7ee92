use Rattle.node_threads.proofs.Streams.{frame_then}
use Rattle.node_threads.proofs.frames.frame_of.Goals as goal

pub returns : goal.returns
returns g c =
    frame_then c.bytes_of.result (λ bytes. bytes.items) (g.I.Read.remaining c.args.input.now) (g.I.Read.remaining c.count_of.new.input)
    (g.I.Read.remaining c.bytes_of.new.input)
    c.in_ok-count.count c.in_ok-count.ensures c.bytes_of.ensures.bytes c.bytes_of.ensures.count
