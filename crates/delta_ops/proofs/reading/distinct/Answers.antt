use Rattle.std.proofs.Common.{get_or, ap, sym, ◌∙◌, arith}
use Rattle.std.specs.Map.{values_of}
use Rattle.delta_ops.proofs.Gathering.{gathered_first, one_if, any_if, entry_alone}
use Rattle.delta_ops.proofs.reading.distinct.Goals as goal

pub returns-in-len1-clause-ok : goal.returns-in-len1-clause-ok
returns-in-len1-clause-ok g c =
    let es = c.entries.result.now in
    one_if c.alone.result (λ v. v.items) (get_or es 0 c.index-value-0.result).1 (values_of c.args.standing.now)
    (ap values_of (sym c.entries.ensures.rest) ∙ entry_alone es c.index-value-0.result (omega (arith, c.in-len1.len_at_least, c.in-len1.len_below)))
    c.alone.ensures.ok

pub returns-in-len1-clause-entries : goal.returns-in-len1-clause-entries
returns-in-len1-clause-entries g c = any_if c.alone.result (λ d v. rw c.entries.ensures.rest at (c.entries.ensures.held tt d v))

pub returns-clause-ok : goal.returns-clause-ok
returns-clause-ok g c = rw c.in_ok-listed.ensures (gathered_first _ _ _ c.new-found.ensures.empty c.in_ok-gather_values.ensures.ok)
