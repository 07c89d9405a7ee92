use Rattle.std.proofs.Common.{refl}
use Rattle.causal_context.specs.Equal.{same_form}
use Rattle.causal_context.proofs.Equality.{same_form-same}
use Rattle.causal_context.proofs.laws.equality_is_that_of_sets.Goals as goal

pub returns : goal.returns
returns c = λ a b ca cb. same_form-same a b (same_form a b) ca cb refl
