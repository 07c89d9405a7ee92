use Rattle.std.proofs.Common.{Some, ap, sym, ◌∙◌}
use Rattle.trace_world.specs.Told.{kind_of, kind_found}
use Rattle.trace_world.proofs.telling.kind_at.Goals as goal

pub returns-in-Some-clause-ok : goal.returns-in-Some-clause-ok
returns-in-Some-clause-ok g c v runs =
    let found = (rw c.in-Some.is at c.in_ok-message.ensures.some) v runs in
    ap Some (c.kind_of-kind.ensures ∙ ap kind_of found.2) ∙ sym (ap kind_found found.1)
