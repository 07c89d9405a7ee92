use Rattle.std.proofs.Common.{map, subst}
use Rattle.std.proofs.lemmas.List.{take_all}
use Rattle.causal_join.specs.OrMap.{FieldsValue}
use Rattle.delta_ops.proofs.Erasing.{Adds, adds_store_at, adds_fields}
use Rattle.delta_ops.proofs.erasures.gather_fields.Goals as goal

pub loop-standing-preserved : goal.loop-standing-preserved
loop-standing-preserved g c =
    adds_store_at c.args.dots.now.keys c.loop-standing.dots.keys c.gather.new.dots.keys c.entries-standing-items.result.now c.loop-standing.standing-index
    c.loop-standing-item.result
    c.loop-standing-test.true c.loop-standing-item.is c.loop-standing.invariant c.in_ok-gather.ensures.ok

pub returns-clause-ok : goal.returns-clause-ok
returns-clause-ok g c =
    let P : FieldsValue → Type 0 = λ entries. Adds c.args.dots.now.keys c.loop-standing.dots.keys (map (λ entry. entry.1) entries) in
    adds_fields c.args.dots.now.keys c.loop-standing.dots.keys c.args.fields.now c.entries-standing-items.result.now c.entries-standing-items.ensures.rest
    c.entries-standing-items.ensures.held c.entries-standing-items.ensures.only
    (subst P (take_all c.loop-standing.standing-index c.entries-standing-items.result.now c.loop-standing-test.false) c.loop-standing.invariant)
