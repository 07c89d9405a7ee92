use Rattle.std.proofs.Common.{◌≡◌, arith, get_or, subst, sym}
use Rattle.std.proofs.lemmas.Result.{IfOk-weaker}
use Rattle.std.specs.Prelude.{IsSome}
use Rattle.causal_context.specs.Context.{has}
use Rattle.dot_store.proofs.Halves.{only_both, all_both}
use Rattle.dot_store.proofs.dot_map.+dots_of.Goals as goal

pub returns-then-middle-eq0-clause-only : goal.returns-then-middle-eq0-clause-only
returns-then-middle-eq0-clause-only g t c =
    let entry = c.in-Some.field-0.now in
    let first = c.in-Some.ensures.item.3 in
    IfOk-weaker c.dots.result _ _ (λ dots only d h. let held = only d h in (entry.0, entry.1, held.0, (0, first.0, sym (first.1 entry)), held.1))
    c.dots.ensures.only

pub returns-then-middle-eq0-clause-all : goal.returns-then-middle-eq0-clause-all
returns-then-middle-eq0-clause-all g t c =
    let stores = c.args.stores.now in
    let at = g.S.DotStore.at in
    let first = c.in-Some.ensures.item.3 in
    IfOk-weaker c.dots.result _ _ (λ dots all k e below place d h.
    let is : k ≡ 0 = omega (arith, c.if-middle-eq0.true, below) in
    all place d (subst (λ entry. IsSome (at entry.1 place d)) (sym (first.1 e)) (subst (λ i. IsSome (at (get_or stores i e).1 place d)) is h)))
    c.dots.ensures.all

pub returns-clause-only : goal.returns-clause-only
returns-clause-only g t c =
    IfOk-weaker c.union-both.result _ _ (λ both is. only_both g.S.DotStore.at c.split_at.result.0.now c.split_at.result.1.now c.args.stores.now
    c.split_at.ensures.by_index.0
    (has c.in_ok-dots.dots) (has c.in-Ok.more) (has both) is c.in_ok-dots.ensures.only c.in-Ok.ensures.only) c.union-both.ensures.ok

pub returns-clause-all : goal.returns-clause-all
returns-clause-all g t c =
    IfOk-weaker c.union-both.result _ _ (λ both is. all_both g.S.DotStore.at c.split_at.result.0.now c.split_at.result.1.now c.args.stores.now
    c.split_at.ensures.by_index.0
    (has c.in_ok-dots.dots) (has c.in-Ok.more) (has both) is c.in_ok-dots.ensures.all c.in-Ok.ensures.all) c.union-both.ensures.ok
