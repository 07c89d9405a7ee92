use Rattle.std.proofs.Common.{sym, ◌∙◌, arith}
use Rattle.std.proofs.lemmas.Result.{IfOk-weaker}
use Rattle.causal_context.specs.Context.{has}
use Rattle.prefix_digest.proofs.UnknownValues.{values_of_none, values_of_one, values_of_list, values_of_branch}
use Rattle.prefix_digest.proofs.values.values_for.Goals as goal

pub returns-in-Nothing-clause-ok : goal.returns-in-Nothing-clause-ok
returns-in-Nothing-clause-ok g c =
    c.new.ensures.items
    ∙ sym (values_of_none (has c.args.known.now) (g.H.PathHash.hash_of c.args.frozen.now.hash) c.args.frozen.now.map c.args.prefix
    (omega (arith, c.depth-depth.ensures.length, c.depth-depth.ensures.bound)) c.in-Nothing.ensures)

pub returns-in-OneKey-clause-ok : goal.returns-in-OneKey-clause-ok
returns-in-OneKey-clause-ok g c =
    let one = values_of_one (has c.args.known.now) (g.H.PathHash.hash_of c.args.frozen.now.hash)
    c.args.frozen.now.map c.args.prefix c.in-OneKey.field-0.now c.in-OneKey.field-1.now
    (omega (arith, c.depth-depth.ensures.length, c.depth-depth.ensures.bound)) c.in-OneKey.ensures in
    IfOk-weaker c.unknown_values.result _ _ (λ values is. is ∙ sym one) c.unknown_values.ensures.ok

pub returns-in-Several-clause-ok : goal.returns-in-Several-clause-ok
returns-in-Several-clause-ok g c =
    let all = values_of_list (has c.args.known.now) (g.H.PathHash.hash_of c.args.frozen.now.hash) c.args.frozen.now.map c.args.prefix
    (omega (arith, c.depth-depth.ensures.length, c.if-depth-eq-DEPTHS.true)) c.in-Several.ensures in
    IfOk-weaker c.unknown_values-in-Several.result _ _ (λ values is. is ∙ sym all) c.unknown_values-in-Several.ensures.ok

pub returns-in-Several-2-clause-ok : goal.returns-in-Several-2-clause-ok
returns-in-Several-2-clause-ok g c =
    c.new-in-Several-2.ensures.items
    ∙ sym (values_of_branch (has c.args.known.now) (g.H.PathHash.hash_of c.args.frozen.now.hash) c.args.frozen.now.map c.args.prefix
    (omega (arith, c.depth-depth.ensures.length, c.depth-depth.ensures.bound, c.if-depth-eq-DEPTHS.false)) c.in-Several-2.ensures)
