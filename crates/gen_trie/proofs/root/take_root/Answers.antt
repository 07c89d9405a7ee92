use Rattle.std.proofs.Common.{◌∙◌, sym}
use Rattle.gen_trie.proofs.Roots.{taken_alone, two_there}
use Rattle.gen_trie.proofs.root.take_root.Goals as goal

pub returns-then-is_some-clause-ok : goal.returns-then-is_some-clause-ok
returns-then-is_some-clause-ok g c =
    taken_alone c.args.root.now c.in-Some.slot c.one_of.result (λ x. x.now.value) c.args.hash c.args.key.now c.in-Some.is c.requires.found (c.one_of.ensures 7)
    (sym c.is_some.ensures ∙ c.if-is_some.true)

pub take_below-requires-clause-many : goal.take_below-requires-clause-many
take_below-requires-clause-many g c =
    two_there c.args.root.now c.in-Some.slot c.one_of.result (λ x. x.now.value) c.in-Some.is c.requires.stands (c.one_of.ensures 7)
    (sym c.is_some.ensures ∙ c.if-is_some.false)
