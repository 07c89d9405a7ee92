use Rattle.std.proofs.Common.{◌/◌, ◌^◌, ◌*◌, arith}
use Rattle.std.proofs.lemmas.Nat.{and_mask}
use Rattle.hash_path.proofs.prefix.index_at.Goals as goal

-- src/prefix.rt
pub returns : goal.returns
returns c = (omega (arith, c.if-depth-ge-DEPTHS.false), and_mask (c.args.hash / 2 ^ (5 * c.args.depth)) 5)
