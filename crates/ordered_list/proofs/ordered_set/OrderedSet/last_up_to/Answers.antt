use Rattle.std.proofs.Common.{◌≡◌, ◌-◌, ◌+◌, ◌<◌, true, false, not, length, ap, ◌∙◌, subst, arith, rules, of_calls}
use Rattle.std.specs.Ordering.{is_gt}
use Rattle.std.specs.List.Sorted.{IsPartitionPoint}
use Rattle.std.proofs.lemmas.Fn.{always_returns_same}
use Rattle.ordered_list.specs.Items.{is_among, IsLastUpTo}
use Rattle.ordered_list.proofs.Items.{parted_at, last_from_point, none_from_point}
use Rattle.ordered_list.proofs.ordered_set.OrderedSet.last_up_to.Goals as goal

pub returns-then-end-eq0-clause-none : goal.returns-then-end-eq0-clause-none
returns-then-end-eq0-clause-none g c =
    let cmp = g.T.Ord.cmp in
    let items = c.as_slice-items.result.now in
    let is = c.as_slice-items.ensures.value in
    let point : IsPartitionPoint (λ y. not (is_gt (cmp y c.args.high.now)) ≡ true) (λ y. not (is_gt (cmp y c.args.high.now)) ≡ false)
    items c.partition_point-end.result =
    c.partition_point-end.ensures.partitioned (λ y. not (is_gt (cmp y c.args.high.now))) (always_returns_same _ _ _ (λ a r f k. search (rules, of_calls)))
    (parted_at cmp g.met.T.Ord.total items c.args.high.now (rw (← is) at c.self.invariant)) in
    λ q among.
    none_from_point cmp g.met.T.Ord.total items c.args.high.now (λ k d low high. point.1 k d (omega arith) high) q
    (ap (λ xs. is_among cmp xs q) (is ∙ c.self.view_is) ∙ among)

pub returns-clause-last : goal.returns-clause-last
returns-clause-last g c =
    let cmp = g.T.Ord.cmp in
    let items = c.as_slice-items.result.now in
    let is = c.as_slice-items.ensures.value in
    let end = c.partition_point-end.result in
    let point : IsPartitionPoint (λ y. not (is_gt (cmp y c.args.high.now)) ≡ true) (λ y. not (is_gt (cmp y c.args.high.now)) ≡ false) items end =
    c.partition_point-end.ensures.partitioned (λ y. not (is_gt (cmp y c.args.high.now))) (always_returns_same _ _ _ (λ a r f k. search (rules, of_calls)))
    (parted_at cmp g.met.T.Ord.total items c.args.high.now (rw (← is) at c.self.invariant)) in
    let within : end - 1 < length items = omega arith in
    let up : end ≡ end - 1 + 1 = omega arith in
    subst (λ xs. IsLastUpTo cmp xs c.args.high.now c.index-items-end.result) (is ∙ c.self.view_is)
    (last_from_point cmp g.met.T.Ord.total items c.args.high.now c.index-items-end.result (end - 1) (rw (← is) at c.self.invariant)
    (subst (IsPartitionPoint (λ y. not (is_gt (cmp y c.args.high.now)) ≡ true) (λ y. not (is_gt (cmp y c.args.high.now)) ≡ false) items) up point)
    within c.index-items-end.is)
