use Rattle.std.proofs.Common.{Some, sym, ap, ◌∙◌, arith}
use Rattle.std.specs.Map.{lookup}
use Rattle.std.specs.BTreeMap.{is_at}
use Rattle.ordered_list.proofs.Places.{place_within, found_there, not_found_in_gap}
use Rattle.ordered_list.proofs.ordered_list.OrderedList.get.Goals as goal

pub index-requires : goal.index-requires
index-requires g c =
    let within = place_within g.K.Ord.cmp c.args.key.now c.deref.result.now c.in-Ok.place c.in-Ok.ensures.found in
    omega (arith, within, c.deref.ensures.len)

pub returns-in-Ok : goal.returns-in-Ok
returns-in-Ok g c =
    let found = found_there g.K.Ord.cmp c.args.key.now c.self.inside.items.items c.in-Ok.place c.index.result.now
    (rw c.deref.ensures.value at c.in-Ok.ensures.found) in
    ap (λ e. Some e.1) c.index.ensures ∙ sym found ∙ ap (lookup (is_at (g.K.Ord.cmp c.args.key.now))) c.self.view_is

pub returns-in-Err : goal.returns-in-Err
returns-in-Err g c =
    let missing = not_found_in_gap g.K.Ord.cmp g.met.K.Ord.total c.args.key.now c.self.inside.items.items c.in-Err.field-0 c.self.invariant
    (rw c.deref.ensures.value at c.in-Err.ensures.absent) in
    sym missing ∙ ap (lookup (is_at (g.K.Ord.cmp c.args.key.now))) c.self.view_is
