use Rattle.std.proofs.Common.{length, sym, ap, ◌∙◌, subst, List}
use Rattle.shared_object.specs.History.{calls_by}
use Rattle.shared_object.proofs.guarded.Guarded.new.Goals as goal

pub invariant_of-result : goal.invariant_of-result
invariant_of-result g c = (
  subst (λ (h : List _). g.J.Object.after c.args.object h) (sym c.requires.writer) c.requires.object,
  sym (ap length c.requires.writer),
  λ p. ap (λ (h : List _). length (calls_by g.J.Event.Placed.place p h)) c.requires.writer ∙ sym (c.no_counts.ensures p),
)
