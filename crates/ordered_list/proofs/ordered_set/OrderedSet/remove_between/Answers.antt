use Rattle.std.proofs.Common.{◌≡◌, not, sym, ap, ◌∙◌, subst, rules, of_calls}
use Rattle.std.specs.List.{filter}
use Rattle.std.specs.List.Sorted.{IsStrictlySortedBy}
use Rattle.std.proofs.lemmas.Fn.{filter_same}
use Rattle.std.proofs.lemmas.List.Kept.{IsStrictlySortedBy-filter}
use Rattle.ordered_list.specs.Items.{is_between}
use Rattle.ordered_list.proofs.ordered_set.OrderedSet.remove_between.Given as given
use Rattle.ordered_list.proofs.ordered_set.OrderedSet.remove_between.Goals as goal

filtered : (g : given.Over) (c : goal.After-retain g) → c.retain.new.self.items
    ≡ filter (λ x. not (is_between g.T.Ord.cmp c.args.low.now c.args.high.now x)) c.self.inside.items.items
filtered g c =
    filter_same _ (λ x. not (is_between g.T.Ord.cmp c.args.low.now c.args.high.now x)) _ (λ x b f' k. search (rules, of_calls)) _ _ c.retain.ensures.filtered

pub invariant_of-self : goal.invariant_of-self
invariant_of-self g c =
    subst (IsStrictlySortedBy g.T.Ord.cmp) (sym (filtered g c))
    (IsStrictlySortedBy-filter g.T.Ord.cmp (λ x. not (is_between g.T.Ord.cmp c.args.low.now c.args.high.now x)) c.self.inside.items.items c.self.invariant)

pub returns : goal.returns
returns g c = filtered g c ∙ ap (filter (λ x. not (is_between g.T.Ord.cmp c.args.low.now c.args.high.now x))) c.self.view_is
