use Rattle.hash_path.proofs.Bits.{below_bit}
use Rattle.gen_trie.proofs.node.position.Goals as goal

pub returns : goal.returns
returns c = below_bit c.args.bitmap c.args.index c.requires
