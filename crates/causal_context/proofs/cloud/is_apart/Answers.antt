use Rattle.std.proofs.Common.{◌≡◌, ◌<◌, ◌+◌, ◌^◌, ◌∙◌, take, refl, sym, ap, subst, arith}
use Rattle.std.specs.Prelude.{IsTrue}
use Rattle.ordered_list.proofs.Places.{take_all, take_next}
use Rattle.dots.specs.Dot.{DotValue}
use Rattle.causal_context.specs.Context.{known_up_to, in_cloud}
use Rattle.causal_context.proofs.Clouds.{every_more, in_cloud_at}
use Rattle.causal_context.proofs.cloud.is_apart.Goals as goal

pub loop-dot-preserved : goal.loop-dot-preserved
loop-dot-preserved g c =
    let ds = c.items-dot-items.result.now in
    let x = c.dot-item.result in
    let entries = c.args.vector.now in
    let known : c.known_up_to.result ≡ known_up_to entries x.name = c.known_up_to.ensures ∙ ap (known_up_to entries) c.name.ensures in
    subst (λ seen. (d : DotValue) → IsTrue (in_cloud seen d) → (known_up_to entries d.name + 1 < d.number) × (d.number < 2 ^ 64))
    (sym (take_next ds c.loop-dot.dot-index x c.loop-dot-test.true c.dot-item.is))
    (every_more (λ d. (known_up_to entries d.name + 1 < d.number) × (d.number < 2 ^ 64)) (take c.loop-dot.dot-index ds) x c.loop-dot.invariant
    (omega (arith, known), omega arith))

pub returns-then-number-known_up_to-clause-apart : goal.returns-then-number-known_up_to-clause-apart
returns-then-number-known_up_to-clause-apart g c =
    let ds = c.items-dot-items.result.now in
    let x = c.dot-item.result in
    let known : c.known_up_to.result ≡ known_up_to c.args.vector.now x.name = c.known_up_to.ensures ∙ ap (known_up_to c.args.vector.now) c.name.ensures in
    let here = in_cloud_at ds c.loop-dot.dot-index x c.loop-dot-test.true c.dot-item.is in
    (λ h. absurd (cc h), λ apart. let above = apart x (ap (λ l. in_cloud l x) (sym c.items-dot-items.ensures.all) ∙ here) in absurd (omega (arith, known)))

pub returns-clause-apart : goal.returns-clause-apart
returns-clause-apart g c =
    let all = take_all c.items-dot-items.result.now c.loop-dot.dot-index c.loop-dot-test.false ∙ c.items-dot-items.ensures.all in
    (λ _ d h. (c.loop-dot.invariant d (ap (λ ds. in_cloud ds d) all ∙ h)).0, λ _. refl)

pub returns-clause-bounded : goal.returns-clause-bounded
returns-clause-bounded g c =
    let all = take_all c.items-dot-items.result.now c.loop-dot.dot-index c.loop-dot-test.false ∙ c.items-dot-items.ensures.all in
    λ _ d h. (c.loop-dot.invariant d (ap (λ ds. in_cloud ds d) all ∙ h)).1
