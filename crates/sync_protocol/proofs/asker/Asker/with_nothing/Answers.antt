use Rattle.std.proofs.Common.{sym, ◌∙◌, ap}
use Rattle.std.specs.FinMap as finite
use Rattle.causal_context.specs.Context.{has}
use Rattle.sync_protocol.proofs.Turned.{within_nothing, starts_there}
use Rattle.sync_protocol.proofs.asker.Asker.with_nothing.Goals as goal

pub invariant_of-result : goal.invariant_of-result
invariant_of-result g c = (
  within_nothing (has c.new-3.result) c.new-2.result.map (ap (λ f. f.map) c.new-2.ensures),
  starts_there (record { hash = c.new-2.result.hash; entries = c.new-2.result.map; touched = finite.empty }) c.new-built.result
      (c.new-built.ensures
      ∙ (λ k. record {
        hash = ((c.new.ensures ∙ sym c.new-2.ensures) k).hash;
        entries = ((c.new.ensures ∙ sym c.new-2.ensures) k).map;
        touched = finite.empty;
      })),
)
