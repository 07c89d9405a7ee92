use Rattle.std.proofs.Common.{rules, refl, ap}
use Rattle.gen_trie.specs.Shapes.{stands_for}
use Rattle.gen_trie.proofs.Lookups.{look_none, look_one, look_many, look_sorted}
use Rattle.gen_trie.proofs.node.Node.+lookup.Goals as goal

pub lookup-requires : goal.lookup-requires
lookup-requires g t c κs within =
    let sorted = look_sorted _ _ _ _ _ c.args.key.now _ (ap stands_for c.self.view_is)
    c.in-Branch.is c.self.invariant.0 _ _ c.in-Some-Many.node _ c.in-Some-Many.field-0-is c.deref.ensures c.in-Some-Many.ensures c.requires in
    search (rules, sorted)

pub returns-in-None-clause-value : goal.returns-in-None-clause-value
returns-in-None-clause-value g t c = look_none _ _ _ _ _ _ _ (ap stands_for c.self.view_is) c.in-Branch.is c.self.invariant.0 c.in-None.ensures

pub returns-in-Some-One-clause-value : goal.returns-in-Some-One-clause-value
returns-in-Some-One-clause-value g t c =
    look_one _ _ _ _ _ _ _ (ap stands_for c.self.view_is) c.in-Branch.is c.self.invariant.0 _ _ c.in-Some-One.entry _ _ c.in-Some-One.field-0-is refl
    c.in-Some-One.ensures c.entry_for.ensures.value

pub returns-in-Some-Many-clause-value : goal.returns-in-Some-Many-clause-value
returns-in-Some-Many-clause-value g t c =
    look_many _ _ _ _ _ _ _ (ap stands_for c.self.view_is) c.in-Branch.is c.self.invariant.0 _ _ c.in-Some-Many.node _ _ c.in-Some-Many.field-0-is
    c.deref.ensures c.in-Some-Many.ensures c.lookup.ensures.value
