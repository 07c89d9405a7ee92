use Rattle.std.proofs.Common.{[], ◌∷◌, inr, refl}
use Rattle.node_threads.specs.Serving.{Refused}
use Rattle.node_threads.proofs.timed_serving.all_again.Goals as goal

pub returns-in-Err : goal.returns-in-Err
returns-in-Err g c =
    let refused = c.in-Err.ensures.refused in
    (Refused ∷ [], inr (refl, refused.0, refused.1), (refl, refl, refl))
