use Rattle.std.proofs.Common.{◌≡◌, [], ◌∷◌, ◌++◌, sym, ap, ◌∙◌, subst}
use Rattle.std.specs.List.Sorted.{IsStrictlySortedBy}
use Rattle.std.specs.Map.{keys_of}
use Rattle.std.proofs.lemmas.List.{take_all}
use Rattle.sha2.specs.Sha256.{sha256}
use Rattle.causal_context.specs.Dots.{dot_cmp}
use Rattle.prefix_digest.specs.Page.{named_values}
use Rattle.prefix_digest.proofs.Branches.{one_taken}
use Rattle.prefix_digest.proofs.KeptKeys.{keys_kept}
use Rattle.prefix_digest.proofs.naming.named_values.Goals as goal

pub loop-dot-preserved : goal.loop-dot-preserved
loop-dot-preserved g c =
    let e = c.loop-dot-item.result in
    c.in_ok-push.ensures.items
    ∙ (λ t. c.loop-dot.invariant t ++ (e.0, c.value_digest.ensures t) ∷ [])
    ∙ sym (one_taken (λ v. (v.0, sha256 v.1)) c.entries-entries.result.now c.loop-dot.dot-index e c.loop-dot-test.true c.loop-dot-item.is)

pub unreachable-requires : goal.unreachable-requires
unreachable-requires g c =
    let es = c.entries-entries.result.now in
    let all : c.loop-dot.names.items ≡ named_values es = c.loop-dot.invariant ∙ ap named_values (take_all c.loop-dot.dot-index es c.loop-dot-test.false) in
    let ascend = subst (IsStrictlySortedBy dot_cmp) (sym (ap keys_of all ∙ keys_kept sha256 es)) c.entries-entries.ensures.ordered in
    let both = c.in-None.ensures.ascend in
    let found = both.1 ascend in
    absurd cc

pub returns-clause-ok : goal.returns-clause-ok
returns-clause-ok g c =
    c.in-Some.ensures.values ∙ c.loop-dot.invariant ∙ ap named_values (take_all c.loop-dot.dot-index c.entries-entries.result.now c.loop-dot-test.false
    ∙ c.entries-entries.ensures.rest)
