use Rattle.std.proofs.Common.{◌≡◌, [], ◌∷◌, ◌++◌, sym, ap, ◌∙◌, subst}
use Rattle.std.specs.List.Sorted.{IsStrictlySortedBy}
use Rattle.std.specs.Map.{keys_of}
use Rattle.std.proofs.lemmas.List.{take_all}
use Rattle.dots.specs.Bytes.{bytes_cmp}
use Rattle.prefix_digest.specs.Page.{named_values, named_fields}
use Rattle.prefix_digest.proofs.Branches.{one_taken}
use Rattle.prefix_digest.proofs.KeptKeys.{keys_kept}
use Rattle.prefix_digest.proofs.naming.named_fields.Goals as goal

pub loop-field-preserved : goal.loop-field-preserved
loop-field-preserved g c =
    let e = c.loop-field-item.result in
    c.in_ok-push.ensures.items
    ∙ (λ t. c.loop-field.invariant t ++ (c.in_ok-copy.ensures.ok t, c.in_ok-names.ensures.ok t) ∷ [])
    ∙ sym (one_taken (λ f. (f.0, named_values f.1)) c.entries-entries.result.now c.loop-field.field-index e c.loop-field-test.true c.loop-field-item.is)

pub unreachable-requires : goal.unreachable-requires
unreachable-requires g c =
    let es = c.entries-entries.result.now in
    let all : c.loop-field.named.items ≡ named_fields es = c.loop-field.invariant
    ∙ ap named_fields (take_all c.loop-field.field-index es c.loop-field-test.false) in
    let ascend = subst (IsStrictlySortedBy bytes_cmp) (sym (ap keys_of all ∙ keys_kept named_values es)) c.entries-entries.ensures.ordered in
    let both = c.in-None.ensures.ascend in
    let found = both.1 ascend in
    absurd cc

pub returns-clause-ok : goal.returns-clause-ok
returns-clause-ok g c =
    c.in-Some.ensures.entries ∙ c.loop-field.invariant ∙ ap named_fields (take_all c.loop-field.field-index c.entries-entries.result.now c.loop-field-test.false
    ∙ c.entries-entries.ensures.rest)
