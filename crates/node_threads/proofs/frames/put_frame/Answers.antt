use Rattle.node_threads.proofs.Streams.{frame_put, on_ok}
use Rattle.node_threads.proofs.frames.put_frame.Goals as goal

pub returns : goal.returns
returns g c =
    let contents = g.O.Write.contents in
    on_ok c.flush.result
    (frame_put (contents c.args.output.now) (contents c.write_all.new.self) (contents c.write_all-2.new.self) (contents c.write_all-3.new.self)
    (contents c.flush.new.self)
    c.to_be_bytes.result c.to_be_bytes-2.result c.args.bytes.now c.args.head c.number.result c.args.to c.in_ok-write_all.ensures.bytes
    c.in_ok-write_all-2.ensures.bytes
    c.in_ok-write_all-3.ensures.bytes c.flush.ensures.bytes c.to_be_bytes.ensures c.to_be_bytes-2.ensures c.requires c.number.ensures.value)
