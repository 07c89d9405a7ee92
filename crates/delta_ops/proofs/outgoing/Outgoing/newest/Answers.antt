use Rattle.std.proofs.Common.{◌∙◌, sym, ap}
use Rattle.std.specs.Prelude.{Some, slice_get, length, ◌-◌}
use Rattle.delta_ops.proofs.Groups.{last_delta, last_there, no_last}
use Rattle.delta_ops.proofs.outgoing.Outgoing.newest.Goals as goal

pub returns-in-Some-clause-value : goal.returns-in-Some-clause-value
returns-in-Some-clause-value g c = λ rest pair is.
    ap Some (c.deref-in-Some.ensures
    ∙ last_delta c.self.inside.deltas.items rest pair c.in-Some.last.now (c.self.view_is ∙ is)
    (ap (λ xs. slice_get xs (length xs - 1)) (sym c.deref.ensures.value) ∙ sym c.in-Some.ensures.value))

pub returns-in-None-clause-value : goal.returns-in-None-clause-value
returns-in-None-clause-value g c = λ rest pair is.
    absurd (last_there c.self.inside.deltas.items rest pair (c.self.view_is ∙ is)
    (ap (λ xs. slice_get xs (length xs - 1)) (sym c.deref.ensures.value) ∙ sym c.in-None.ensures.value))

pub returns-in-Some-clause-none : goal.returns-in-Some-clause-none
returns-in-Some-clause-none g c = λ is.
    absurd (no_last c.self.inside.deltas.items c.in-Some.last.now (c.self.view_is ∙ is)
    (ap (λ xs. slice_get xs (length xs - 1)) (sym c.deref.ensures.value) ∙ sym c.in-Some.ensures.value))
