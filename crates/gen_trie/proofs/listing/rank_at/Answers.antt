use Rattle.std.proofs.Common.{rules, of_calls, ◌∷◌}
use Rattle.std.proofs.lemmas.Fn.{always_returns_same}
use Rattle.gen_trie.proofs.Halves.{is_before, parted, rank_is}
use Rattle.gen_trie.proofs.listing.rank_at.Goals as goal

pub returns : goal.returns
returns g c =
    let w = c.args.hash ∷ c.args.key.now in
    let point = c.partition_point.ensures.partitioned (is_before w) (always_returns_same _ _ _ (λ a r f k. search (rules, of_calls)))
    (parted w c.args.entries.now c.requires) in
    rank_is w c.partition_point.result c.args.entries.now c.partition_point.ensures.bound point.0 point.1
