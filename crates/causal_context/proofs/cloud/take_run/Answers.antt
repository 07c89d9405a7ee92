use Rattle.std.proofs.Common.{◌+◌, ◌∙◌, ℕ, sym, ap, subst}
use Rattle.std.specs.List.Sorted.{IsStrictlySortedBy}
use Rattle.std.proofs.lemmas.List.Kept.{IsStrictlySortedBy-filter}
use Rattle.dots.specs.Dot.{DotValue}
use Rattle.causal_context.specs.Dots.{dot_cmp}
use Rattle.causal_context.proofs.Clouds.{run_taken}
use Rattle.causal_context.proofs.cloud.take_run.Goals as goal

pub returns-then-number-end-clause-run : goal.returns-then-number-end-clause-run
returns-then-number-end-clause-run g c = λ d.
    let dot_of : ℕ → ℕ → DotValue = λ name number. record { name = name; number = number } in
    let low = c.dot_at.ensures ∙ ap (λ n. dot_of n (c.number-then-number-end.result + 1)) c.name.ensures
    ∙ ap (λ n. dot_of c.args.dot.name (n + 1)) c.number-then-number-end.ensures.value in
    let high = c.dot_at-then-number-end.ensures ∙ ap (λ n. dot_of n c.args.end) c.name-then-number-end.ensures in
    run_taken c.args.dot c.dot_at.result c.dot_at-then-number-end.result c.args.end c.args.cloud.now c.remove_between.new.self low high
    c.remove_between.ensures d

pub returns-then-number-end-clause-ordered : goal.returns-then-number-end-clause-ordered
returns-then-number-end-clause-ordered g c =
    subst (IsStrictlySortedBy dot_cmp) (sym c.remove_between.ensures) (IsStrictlySortedBy-filter dot_cmp _ c.args.cloud.now c.requires.ordered)
