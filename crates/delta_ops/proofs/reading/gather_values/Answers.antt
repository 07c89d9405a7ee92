use Rattle.std.proofs.Common.{map, subst, ◌∙◌}
use Rattle.std.proofs.lemmas.List.{take_all}
use Rattle.causal_join.specs.OrMap.{ValuesValue}
use Rattle.delta_ops.specs.Gathers.{GathersMore}
use Rattle.delta_ops.proofs.Gathering.{more_value_at}
use Rattle.delta_ops.proofs.reading.gather_values.Goals as goal

pub loop-value-preserved : goal.loop-value-preserved
loop-value-preserved g c =
    more_value_at c.args.found.now.keys c.loop-value.found.keys c.insert.new.self.keys c.entries-value-items.result.now c.loop-value.value-index
    c.loop-value-item.result
    c.loop-value-test.true c.loop-value-item.is c.loop-value.invariant (rw c.in_ok-copy.ensures.ok at c.in_ok-insert.ensures.keys)

pub returns-clause-ok : goal.returns-clause-ok
returns-clause-ok g c =
    let P : ValuesValue → Type 0 = λ entries. GathersMore c.args.found.now.keys c.loop-value.found.keys (map (λ entry. entry.1) entries) in
    subst P (take_all c.loop-value.value-index c.entries-value-items.result.now c.loop-value-test.false ∙ c.entries-value-items.ensures.rest)
    c.loop-value.invariant

pub returns-clause-entries : goal.returns-clause-entries
returns-clause-entries g c = λ d v. rw c.entries-value-items.ensures.rest at (c.entries-value-items.ensures.held tt d v)
