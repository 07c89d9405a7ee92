use Rattle.std.proofs.Common.{map}
use Rattle.std.proofs.lemmas.List.{map-append}
use Rattle.causal_context.specs.Context.{has}
use Rattle.delta_ops.proofs.Erasing.{known_more}
use Rattle.delta_ops.proofs.erasures.context_of.Goals as goal

pub loop-dot-preserved : goal.loop-dot-preserved
loop-dot-preserved g c =
    rw map-append (known_more (has c.loop-dot.context) (has c.add.new.self) (map (λ dot. dot.now) c.loop-dot.yielded) c.in-Some.dot.now
    c.loop-dot.invariant c.in_ok-add.ensures.ok)
