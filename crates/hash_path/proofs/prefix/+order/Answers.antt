use Rattle.std.specs.Prelude.{refl}
use Rattle.hash_path.proofs.prefix.+order.Goals as goal

-- src/prefix.rt
pub order-returns-in-None-Some : goal.order-returns-in-None-Some
order-returns-in-None-Some c d =
    let none = rw d.in-None-Some.is-0 at d.split_first.ensures.parts in
    rw (none, d.in-None-Some.ensures.parts) refl
