use Rattle.gen_trie.proofs.Halves.{get_value, get_key}
use Rattle.gen_trie.proofs.listing.in_list.Goals as goal

pub returns-clause-value : goal.returns-clause-value
returns-clause-value g c = get_value c.args.hash c.args.key.now c.place_of-at.result c.args.entries.now c.place_of-at.ensures c.get.result c.get.ensures.lookup

pub returns-clause-key : goal.returns-clause-key
returns-clause-key g c = get_key c.args.hash c.args.key.now c.place_of-at.result c.args.entries.now c.place_of-at.ensures c.get.result c.get.ensures.lookup
