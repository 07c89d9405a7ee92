use Rattle.std.proofs.Common.{◌≡◌, ◌++◌, ◌∙◌, [], ap, sym, arith, length, length-append}
use Rattle.std.proofs.lemmas.List.{append-nil, nil_from_length}
use Rattle.std.specs.Vec.Iter.{into_iter_items}
use Rattle.shared_object.proofs.Handed.{one_over}
use Rattle.shared_object.proofs.finishing.gathered.Goals as goal

pub loop-item-init : goal.loop-item-init
loop-item-init g c = (ap (λ xs. c.args.first.items ++ xs) c.into_iter-item-iterator.ensures.into_iter_gives.0, omega arith)

-- there is room for the item, as there is for all
pub unreachable-requires : goal.unreachable-requires
unreachable-requires g c =
    let all = c.loop-item.all in
    let rest = into_iter_items c.loop-item.item-iterator in
    omega (
      arith,
      ap length c.loop-item.invariant.0,
      length-append all.items rest,
      length-append c.args.first.items c.args.second.items,
      ap length c.in-Some.ensures.steps.0,
      all.ok.0,
      c.args.first.ok.0,
      c.args.second.ok.0,
      c.requires,
      c.loop-item.invariant.1,
      c.in-Err.ensures.full,
    )

pub loop-item-preserved : goal.loop-item-preserved
loop-item-preserved g c = (
  one_over c.loop-item.all.items _ _ _ _ c.in-Some.item c.loop-item.invariant.0 c.in-Some.ensures.steps.0 c.in-Ok.ensures.items,
  omega (arith, c.loop-item.invariant.1, c.in-Ok.ensures.capacity),
)

pub returns : goal.returns
returns g c =
    let none : into_iter_items c.loop-item.item-iterator ≡ [] = nil_from_length _ (sym c.loop-item.item-iterator.rest.ok.0 ∙ c.in-None.ensures.steps.0) in
    sym (append-nil c.loop-item.all.items) ∙ (ap (λ xs. c.loop-item.all.items ++ xs) (sym none) ∙ c.loop-item.invariant.0)
