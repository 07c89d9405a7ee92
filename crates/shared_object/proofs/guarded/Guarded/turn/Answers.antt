use Rattle.shared_object.proofs.guarded.Guarded.turn.Goals as goal

pub returns-in-Err-clause-refused : goal.returns-in-Err-clause-refused
returns-in-Err-clause-refused g c =
    let refused = rw c.in-Err.is at c.accept-guarded.ensures.refused in
    rw (c.meet-view.ensures.whole c.go_on_where.ensures) refused
