use Rattle.hash_path.proofs.Prefixes.{last_is}
use Rattle.hash_path.proofs.prefix.Prefix.last_child.Goals as goal

pub returns : goal.returns
returns c = rw (← c.self.view_is) (last_is c.self.inside.depth c.self.inside.bits c.last_at.result c.if-self-ge-DEPTHS.false c.last_at.ensures)
