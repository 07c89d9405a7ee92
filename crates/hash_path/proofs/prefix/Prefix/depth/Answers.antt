use Rattle.std.proofs.Common.{sym, subst, arith}
use Rattle.hash_path.specs.PathLaws.{length-indices}
use Rattle.hash_path.specs.Path.{AreIndices}
use Rattle.hash_path.proofs.Prefixes.{are_indices}
use Rattle.hash_path.proofs.prefix.Prefix.depth.Goals as goal

pub returns-clause-length : goal.returns-clause-length
returns-clause-length c = rw (← c.self.view_is) (sym (length-indices c.self.inside.depth c.self.inside.bits))

pub returns-clause-indices : goal.returns-clause-indices
returns-clause-indices c =
    subst (AreIndices 0) c.self.view_is (are_indices 0 c.self.inside.depth c.self.inside.bits (omega (arith, c.self.invariant.0))
    (omega (arith, c.self.invariant.2)))
