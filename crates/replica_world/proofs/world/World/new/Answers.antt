use Rattle.std.proofs.Common.{[], ap}
use Rattle.std.specs.Map.{lookup}
use Rattle.std.specs.BTreeMap.{is_at}
use Rattle.std.specs.Ordering.{nat_cmp}
use Rattle.replica_world.specs.Kept.{back_of, saves_in, back_in}
use Rattle.replica_world.proofs.Crashed.{kept_begins}
use Rattle.replica_world.proofs.Refusing.{world_begins}
use Rattle.replica_world.proofs.world.World.new.Goals as goal

pub invariant_of-result : goal.invariant_of-result
invariant_of-result g c =
    rw (c.new-2.ensures, c.new-3.ensures.items) (
      world_begins g.H.PathHash.hash_of c.args.hash c.new.result c.new.ensures.empty,
      kept_begins (g.H.PathHash.hash_of c.args.hash) (back_in c.new-4.result) (λ n. ap (λ es. back_of (lookup (is_at (nat_cmp n)) es)) c.new-4.ensures.empty)
          (saves_in c.new-4.result),
    )

-- this hash, and no event
pub returns : goal.returns
returns g c = rw c.new-3.ensures.items (ap (λ messages. record { hash = c.args.hash; messages = messages; held = [] }) c.new-2.ensures)
