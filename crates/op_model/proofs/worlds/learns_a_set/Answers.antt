use Rattle.op_model.proofs.Pairs.{learns_live}
use Rattle.op_model.proofs.worlds.learns_a_set.Goals as goal

pub returns : goal.returns
returns c = λ w name more p g d sound part means delta. record { seen = learns_live w sound name more part p d means.seen delta; outgoing = means.outgoing }
