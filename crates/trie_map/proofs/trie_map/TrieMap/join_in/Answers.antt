use Rattle.std.proofs.Common.{subst}
use Rattle.std.specs.Prelude.{IsTrue, IfOk}
use Rattle.trie_map.specs.Here.{JoinsHere}
use Rattle.dot_store.specs.Store.{HasNothing}
use Rattle.causal_context.specs.Context.{has}
use Rattle.trie_map.proofs.Here.{each_changed, joined_in}
use Rattle.trie_map.proofs.trie_map.TrieMap.join_in.Goals as goal

pub invariant_of-self : goal.invariant_of-self
invariant_of-self g c = (
  each_changed _ c.args.key.now c.self.inside.entries c.change.new.self (λ s. HasNothing (g.S.DotStore.at s) → ⊥) (λ s both is. is.0.filled)
      c.self.invariant.0 c.change.result c.change.ensures.ok c.change.ensures.same,
  each_changed _ c.args.key.now c.self.inside.entries c.change.new.self g.S.DotStore.canonical (λ s both is. is.1)
      c.self.invariant.1 c.change.result c.change.ensures.ok c.change.ensures.same,
)

pub returns-clause-ok : goal.returns-clause-ok
returns-clause-ok g c =
    subst (λ map. IfOk c.change.result (λ there. IsTrue there → JoinsHere g.S.DotStore.at g.S.DotStore.greater map.1 c.change.new.self.map c.args.key.now
    (has c.args.own.now) c.args.yours.now (has c.args.theirs.now))) c.self.view_is
    (joined_in _ c.args.key.now c.self.inside.entries c.change.new.self g.S.DotStore.at g.S.DotStore.greater (has c.args.own.now) c.args.yours.now
    (has c.args.theirs.now) (λ s both is. is.0) c.change.result c.change.ensures.there c.change.ensures.ok)
