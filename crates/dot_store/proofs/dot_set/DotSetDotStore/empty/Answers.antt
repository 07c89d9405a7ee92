use Rattle.std.proofs.Common.{◌∙◌}
use Rattle.dot_store.proofs.Dots.{at_keys}
use Rattle.dot_store.proofs.dot_set.DotSetDotStore.empty.Goals as goal

pub returns : goal.returns
returns g c = λ place d. at_keys c.empty.result place d ∙ c.empty.ensures place d
