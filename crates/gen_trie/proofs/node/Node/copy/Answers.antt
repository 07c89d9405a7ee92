use Rattle.std.proofs.Common.{suc, ◌≤◌, sym, ◌∙◌, ap, subst}
use Rattle.std.specs.List.{All}
use Rattle.hash_path.specs.Fan.{fan}
use Rattle.gen_trie.specs.Shapes.{children, StandsBelow, AreNoNewer, IsCanonical, IsNoNewer, height_and_entries, stands_for, unsealed}
use Rattle.gen_trie.proofs.Puts.{same_branch}
use Rattle.gen_trie.proofs.Stamps.{later}
use Rattle.gen_trie.proofs.node.Node.copy.Goals as goal

pub invariant_of-result : goal.invariant_of-result
invariant_of-result g c = (
  same_branch c.in-Branch.below c.in-Branch.bitmap c.in-Branch.slots.items c.in_ok-slots-in-Branch.slots.items
      (subst IsCanonical c.in-Branch.is c.self.invariant.0)
      (c.in_ok-slots-in-Branch.ensures.same c.in-Branch.below ∙ ap (children c.in-Branch.below) c.deref.ensures.value)
      (λ f. c.in_ok-slots-in-Branch.ensures.fits c.in-Branch.below (subst (All (StandsBelow c.in-Branch.below)) (sym c.deref.ensures.value) f)),
  tt,
  c.in_ok-slots-in-Branch.ensures.stamps c.args.generation
      (later c.self.inside.stamp c.args.generation c.deref.result.now (subst (λ n. n.1.1.1 ≤ c.args.generation) (sym c.self.view_is) c.requires)
      (subst (All (IsNoNewer c.self.inside.stamp)) (sym c.deref.ensures.value) (subst (AreNoNewer c.self.inside.stamp) c.in-Branch.is c.self.invariant.2))),
)

pub returns-in_ok-slots-in-Branch-clause-ok : goal.returns-in_ok-slots-in-Branch-clause-ok
returns-in_ok-slots-in-Branch-clause-ok g c =
    ap (unsealed c.args.generation) (
    ap (λ cs. (suc c.in-Branch.below, fan cs)) (c.in_ok-slots-in-Branch.ensures.same c.in-Branch.below ∙ ap (children c.in-Branch.below) c.deref.ensures.value)
    ∙ ap height_and_entries (sym c.in-Branch.is) ∙ ap stands_for c.self.view_is
    )
