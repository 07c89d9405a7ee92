use Rattle.gen_trie.specs.Shapes.{children, IsSeat}
use Rattle.std.proofs.Common.{subst, vec_len}
use Rattle.gen_trie.proofs.node.seat_of.Goals as goal

pub returns : goal.returns
returns g c =
    subst (λ i. IsSeat i (children c.args.below c.args.slots.now.items) (vec_len c.args.slots.now)
    c.seat_at.result.index c.seat_at.result.at c.seat_at.result.taken) c.digit_of-index.ensures.value c.seat_at.ensures
