use Rattle.op_model.proofs.Pairs.{means-same}
use Rattle.op_model.proofs.worlds.same_pairs_mean_the_same.Goals as goal

pub returns : goal.returns
returns c = λ w name p q g h live group means. means-same p q g h w name live group means
