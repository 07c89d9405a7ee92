use Rattle.std.proofs.lemmas.Result.{IfOk-weaker}
use Rattle.delta_ops.proofs.erasures.clear.Goals as goal

-- src/erasures.rt
pub returns-clause-ok : goal.returns-clause-ok
returns-clause-ok g c = IfOk-weaker c.erasing.result _ _ (λ made is. (c.in_ok-dots.dots.keys, c.in_ok-dots.ensures.ok, is.0, is.1, is.2)) c.erasing.ensures.ok
