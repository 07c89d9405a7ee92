use Rattle.hash_path.specs.PathLaws.{length-indices}
use Rattle.hash_path.proofs.Prefixes.{covers_mask}
use Rattle.hash_path.proofs.prefix.Prefix.covers.Goals as goal

pub returns : goal.returns
returns c =
    rw (← c.self.view_is)
    (rw length-indices (covers_mask c.self.inside.depth c.self.inside.bits c.args.hash c.if-self-ge-DEPTHS.false c.self.invariant.1))
