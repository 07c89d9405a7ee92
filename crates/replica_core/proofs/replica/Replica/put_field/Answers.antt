use Rattle.std.proofs.Common.{ap, inl, inr}
use Rattle.std.specs.Prelude.{Err}
use Rattle.replica_core.specs.Meaning.{ReplicaValue}
use Rattle.op_model.specs.Place.{place_of}
use Rattle.replica_core.proofs.Steps.{put_stepped, put_without_memory}
use Rattle.replica_core.proofs.replica.Replica.put_field.Goals as goal

pub returns-in-Some-clause-refused : goal.returns-in-Some-clause-refused
returns-in-Some-clause-refused g c = inr (c.in-Some.ensures (place_of c.args.key.now c.args.field.now) c.args.value.now)

pub returns-in-Err-clause-refused : goal.returns-in-Err-clause-refused
returns-in-Err-clause-refused g c =
    let none = rw (← c.self.view_is) at (c.in_default.ensures (place_of c.args.key.now c.args.field.now) c.args.value.now) in
    rw (← c.self.view_is)
    (put_without_memory (record {
      name = c.self.inside.name;
      live = c.self.inside.live;
      group = c.self.inside.group;
      opened = c.self.inside.opened;
      sessions = c.self.inside.sessions.items;
      kept = c.self.inside.answerer;
    })
    (place_of c.args.key.now c.args.field.now) c.args.value.now c.in-Err.refusal none c.in-Err.ensures.err (λ e. c.in-Err.ensures.spent.0 (ap Err e)))

pub returns-in-Ok-make-clause-ok : goal.returns-in-Ok-make-clause-ok
returns-in-Ok-make-clause-ok g c =
    let put = c.in-Ok.ensures.ok in
    put_stepped g.H.PathHash.hash_of c.args.self.now c.make.new.self c.in-Ok.made.0 c.in-Ok-make.ensures.ok c.in-Ok-make.ensures.waits c.make.ensures.hash c.self.inside.live.0
    (ap (λ (r : ReplicaValue _). r.live.0) c.self.view_is) c.self.inside.name (ap (λ (r : ReplicaValue _). r.name) c.self.view_is)
    (place_of c.args.key.now c.args.field.now) c.args.value.now c.in-Ok.made.1 put.0 put.1 put.2 put.3 c.has_number.ensures.bounded

pub returns-in-Err-make-clause-refused : goal.returns-in-Err-make-clause-refused
returns-in-Err-make-clause-refused g c = inl (c.in-Err-make.ensures.refused, c.in_default.ensures (place_of c.args.key.now c.args.field.now) c.args.value.now)
