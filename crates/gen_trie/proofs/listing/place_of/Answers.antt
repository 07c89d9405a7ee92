use Rattle.std.proofs.Common.{◌∷◌, refl}
use Rattle.gen_trie.proofs.Halves.{place_there, place_none}
use Rattle.gen_trie.proofs.listing.place_of.Goals as goal

pub returns-then-has_key_at : goal.returns-then-has_key_at
returns-then-has_key_at g c =
    let within = c.if-has_key_at.ensures.within refl in
    place_there (c.args.hash ∷ c.args.key.now) c.rank_at-at.result c.args.entries.now c.rank_at-at.ensures within (c.if-has_key_at.ensures.same within)

pub returns : goal.returns
returns g c = place_none (c.args.hash ∷ c.args.key.now) c.rank_at-at.result c.args.entries.now c.requires c.rank_at-at.ensures c.if-has_key_at.ensures.same
