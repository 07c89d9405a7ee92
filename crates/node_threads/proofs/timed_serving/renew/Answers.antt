use Rattle.std.proofs.Common.{◌++◌, ◌-◌, ◌^◌, refl}
use Rattle.node_threads.specs.Serving.{lost, refused, unsent}
use Rattle.node_threads.proofs.Rounds.{counted_both}
use Rattle.node_threads.proofs.timed_serving.renew.Goals as goal

pub returns : goal.returns
returns g c =
    let again = c.all_again-again.ensures in
    let flushed = c.flush_to_all-flushed.ensures in
    let told = c.both_sent.ensures in
    let limit = 2 ^ 64 - 1 in (
      again.0 ++ flushed.0,
      (c.all_again-again.new.post, c.all_again-again.new.client, again.0, flushed.0, again.1, flushed.1, refl),
      (
        counted_both limit refused again.0 flushed.0 _ _ _ again.2.0 flushed.2.0 told.refused,
        counted_both limit unsent again.0 flushed.0 _ _ _ again.2.1 flushed.2.1 told.unsent,
        counted_both limit lost again.0 flushed.0 _ _ _ again.2.2 flushed.2.2 told.lost,
      ),
    )
