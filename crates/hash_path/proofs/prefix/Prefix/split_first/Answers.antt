use Rattle.std.proofs.Common.{sym, ◌∙◌}
use Rattle.hash_path.proofs.Prefixes.{rest_fits, first_and_rest}
use Rattle.hash_path.proofs.prefix.Prefix.split_first.Goals as goal

pub invariant_of-rest : goal.invariant_of-rest
invariant_of-rest c = rest_fits c.self.inside.depth c.self.inside.bits c.if-self-eq0.false c.self.invariant

pub returns-clause-parts : goal.returns-clause-parts
returns-clause-parts c = sym c.self.view_is ∙ first_and_rest c.self.inside.depth c.self.inside.bits c.if-self-eq0.false
