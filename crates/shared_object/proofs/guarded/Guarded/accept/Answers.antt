use Rattle.std.proofs.Common.{◌≡◌, ◌++◌, ◌∷◌, [], List, length, sym, ap, arith, inl, subst, length-append}
use Rattle.shared_object.specs.History.{AreCounts}
use Rattle.shared_object.proofs.Calls.{calls_length, counts_more}
use Rattle.shared_object.proofs.guarded.Guarded.accept.Goals as goal

pub counted-requires-clause-room : goal.counted-requires-clause-room
counted-requires-clause-room g c =
    let most = calls_length g.J.Event.Placed.place c.args.place c.self.inside.writer in
    let here = c.self.invariant.2 c.args.place in
    omega (arith, most, here, c.self.invariant.1)

pub invariant_of-guarded : goal.invariant_of-guarded
invariant_of-guarded g c =
    let event = g.C.Update.event c.args.update.now c.in-Ok.reply c.args.place in
    let more : c.publish_placed-writer.result ≡ c.self.inside.writer ++ event ∷ [] = c.publish_placed-writer.ensures in
    let counts = counts_more g.J.Event.Placed.place c.self.inside.counts c.counted.result c.self.inside.writer event c.args.place
    (g.met.C.Update.placed c.args.update.now c.in-Ok.reply c.args.place) c.self.invariant.2 c.counted.ensures.here c.counted.ensures.elsewhere in (
      subst (λ (h : List _). g.J.Object.after c.update.new.object h) (sym more) (c.in-Ok.ensures.after c.self.inside.writer c.args.place c.self.invariant.0),
      omega (arith, ap length more, length-append c.self.inside.writer (event ∷ []), c.self.invariant.1),
      subst (λ (h : List _). AreCounts g.J.Event.Placed.place c.counted.result h) (sym more) counts,
    )

pub invariant_of-guarded-in-Err : goal.invariant_of-guarded-in-Err
invariant_of-guarded-in-Err g c = (c.in-Err.ensures.unchanged c.self.inside.writer c.self.invariant.0, c.self.invariant.1, c.self.invariant.2)

pub returns-in-Err-clause-refused : goal.returns-in-Err-clause-refused
returns-in-Err-clause-refused g c =
    rw (← c.self.view_is) (inl (omega (arith, c.self.invariant.1), c.in-Err.ensures.refused c.self.inside.writer c.self.invariant.0))
