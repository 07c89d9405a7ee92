use Rattle.delta_ops.specs.LiveMap.{live_state}
use Rattle.std.proofs.Common.{IsSome}
use Rattle.op_model.specs.Place.{place_of}
use Rattle.std.proofs.Common.{ap}
use Rattle.replica_core.specs.Meaning.{ReplicaValue}
use Rattle.replica_core.proofs.Steps.{erased, removed, just_some}
use Rattle.replica_core.proofs.replica.Replica.remove_field.Goals as goal

pub returns-clause-ok : goal.returns-clause-ok
returns-clause-ok g c =
    let made = c.in_ok-delta.ensures.ok in
    record {
      step = removed g.H.PathHash.hash_of c.args.self.now c.make.new.self c.in_ok-delta.delta c.in_ok-make.ensures.ok c.in_ok-make.ensures.waits c.make.ensures.hash
          c.self.inside.live.0
          (ap (λ (r : ReplicaValue _). r.live.0) c.self.view_is) (λ p dot. IsSome (p.at (place_of c.args.key.now c.args.field.now) dot))
          made.0 c.in_ok-delta.number (just_some made.0 ((live_state c.self.inside.live.0).at (place_of c.args.key.now c.args.field.now)) made.1)
          made.2 made.3 made.4;
      waits = erased g.H.PathHash.hash_of c.args.self.now c.make.new.self c.in_ok-delta.delta c.in_ok-make.ensures.ok c.in_ok-make.ensures.waits c.make.ensures.hash
          c.self.inside.live.0 (ap (λ (r : ReplicaValue _). r.live.0) c.self.view_is)
          (λ p dot. IsSome (p.at (place_of c.args.key.now c.args.field.now) dot)) made.0
          (just_some made.0 ((live_state c.self.inside.live.0).at (place_of c.args.key.now c.args.field.now)) made.1) made.2;
      hash = c.make.ensures.hash;
    }
