use Rattle.std.proofs.Common.{◌≡◌, ◌-◌, cond, eqb, sym, ap, subst, ◌∙◌, arith}
use Rattle.std.specs.Ordering.{nat_cmp}
use Rattle.std.specs.Cmp.{nat_cmp_total}
use Rattle.std.specs.BTreeMap.{is_at}
use Rattle.ordered_list.proofs.Places.{Ascends, ascends_insert, ascends_remove}
use Rattle.causal_context.specs.Context.{known_up_to}
use Rattle.causal_context.proofs.Vectors.{known_up_to-insert, known_up_to-remove, HasNoZero-insert, HasNoZero-remove, found_from_known}
use Rattle.causal_context.proofs.vector.lower.Goals as goal

pub replace-requires : goal.replace-requires
replace-requires g c = found_from_known c.args.vector.now c.name-name.result (let at = ap (known_up_to c.args.vector.now) c.name-name.ensures in
    let last = c.requires.last in omega arith)

pub returns-then-number-eq1-clause-lowered : goal.returns-then-number-eq1-clause-lowered
returns-then-number-eq1-clause-lowered g c = λ q.
    let zero : c.args.dot.number - 1 ≡ 0 = omega arith in
    known_up_to-remove c.args.vector.now c.remove.new.self c.name-name.result q (c.remove.ensures.updates q)
    ∙ ap (λ n. cond (eqb n q) 0 (known_up_to c.args.vector.now q)) c.name-name.ensures
    ∙ ap (λ n. cond (eqb c.args.dot.name q) n (known_up_to c.args.vector.now q)) (sym zero)

pub returns-then-number-eq1-clause-no_zero : goal.returns-then-number-eq1-clause-no_zero
returns-then-number-eq1-clause-no_zero g c = HasNoZero-remove c.args.vector.now c.remove.new.self c.name-name.result c.remove.ensures.updates c.requires.no_zero

pub returns-then-number-eq1-clause-ascend : goal.returns-then-number-eq1-clause-ascend
returns-then-number-eq1-clause-ascend g c =
    subst (Ascends nat_cmp) (sym c.remove.ensures.entries)
    (ascends_remove nat_cmp nat_cmp_total (is_at (nat_cmp c.name-name.result)) c.args.vector.now c.requires.ascend)

pub returns-clause-lowered : goal.returns-clause-lowered
returns-clause-lowered g c = λ q.
    let lower = ap (λ n. n - 1) c.number-2.ensures.value in
    known_up_to-insert c.args.vector.now c.replace.new.self c.name-name.result (c.number-2.result - 1) q (c.replace.ensures.updates q)
    ∙ ap (λ n. cond (eqb n q) (c.number-2.result - 1) (known_up_to c.args.vector.now q)) c.name-name.ensures
    ∙ ap (λ n. cond (eqb c.args.dot.name q) n (known_up_to c.args.vector.now q)) lower

pub returns-clause-no_zero : goal.returns-clause-no_zero
returns-clause-no_zero g c = HasNoZero-insert c.args.vector.now c.replace.new.self c.name-name.result (c.number-2.result - 1) (omega arith)
    c.replace.ensures.updates c.requires.no_zero

pub returns-clause-ascend : goal.returns-clause-ascend
returns-clause-ascend g c =
    subst (Ascends nat_cmp) (sym c.replace.ensures.entries)
    (ascends_insert nat_cmp nat_cmp_total c.args.vector.now c.name-name.result (c.number-2.result - 1) c.requires.ascend)
