use Rattle.std.proofs.Common.{◌≤◌, subst}
use Rattle.hash_path.proofs.Prefixes.{child_holds, child_is}
use Rattle.hash_path.proofs.prefix.Prefix.child.Goals as goal

pub invariant_of-result : goal.invariant_of-result
invariant_of-result c =
    let least = subst (λ m. c.args.index ≤ m) c.last_at.ensures c.if-index-last_at.false in
    child_holds c.self.inside.depth c.self.inside.bits c.args.index c.if-self-ge-DEPTHS.false least c.self.invariant.1

pub returns : goal.returns
returns c =
    let least = subst (λ m. c.args.index ≤ m) c.last_at.ensures c.if-index-last_at.false in
    rw (← c.self.view_is) (child_is c.self.inside.depth c.self.inside.bits c.args.index c.if-self-ge-DEPTHS.false least c.self.invariant.1)
