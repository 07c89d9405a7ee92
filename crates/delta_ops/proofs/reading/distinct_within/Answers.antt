use Rattle.std.proofs.Common.{sym, arith}
use Rattle.delta_ops.proofs.Gathering.{gathered_first, gathers_if, entries_if, values_in, field_alone}
use Rattle.delta_ops.proofs.reading.distinct_within.Goals as goal

pub returns-in-len1-clause-ok : goal.returns-in-len1-clause-ok
returns-in-len1-clause-ok g c =
    gathers_if c.distinct.result (λ v. v.items) _ (values_in c.args.fields.now)
    (sym (field_alone c.args.fields.now c.index-fields-0.result (omega (arith, c.in-len1.len_at_least, c.in-len1.len_below)))) c.distinct.ensures.ok

pub returns-in-len1-clause-entries : goal.returns-in-len1-clause-entries
returns-in-len1-clause-entries g c =
    entries_if c.distinct.result c.args.fields.now c.index-fields-0.result (omega (arith, c.in-len1.len_at_least, c.in-len1.len_below))
    c.distinct.ensures.entries

pub returns-clause-ok : goal.returns-clause-ok
returns-clause-ok g c = rw c.in_ok-listed.ensures (gathered_first _ _ _ c.new-found.ensures.empty c.in_ok-gather_fields.ensures.ok)
