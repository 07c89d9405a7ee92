use Rattle.std.proofs.Common.{◌≡◌, ◌∙◌, take, refl, sym, ap, subst, arith}
use Rattle.std.specs.Prelude.{IsTrue}
use Rattle.ordered_list.proofs.Places.{take_all, take_next}
use Rattle.dots.specs.Dot.{DotValue}
use Rattle.causal_context.specs.Context.{has, in_cloud}
use Rattle.causal_context.proofs.Clouds.{every_more, in_cloud_at}
use Rattle.replica_core.proofs.Lacking.{lacks_next, lacks_apart, lacks_none, is_there_unless}
use Rattle.replica_core.proofs.guarding.lacks_of.Goals as goal

pub loop-dot-preserved : goal.loop-dot-preserved
loop-dot-preserved g c =
    let ds = c.cloud-dot-items.result.now in
    let x = c.dot-item.result in
    subst (λ seen. (d : DotValue) → IsTrue (in_cloud seen d) → d.name ≡ c.args.name → IsTrue (has c.args.own.now d))
    (sym (take_next ds c.loop-dot.dot-index x c.loop-dot-test.true c.dot-item.is))
    (every_more (λ d. d.name ≡ c.args.name → IsTrue (has c.args.own.now d)) (take c.loop-dot.dot-index ds) x c.loop-dot.invariant
    (is_there_unless c.args.own.now x c.args.name c.is_lacking.result c.if-is_lacking.false c.is_lacking.ensures.1))

pub returns-then-entry : goal.returns-then-entry
returns-then-entry g c = (
  λ _. lacks_next c.args.own.now c.args.other.now c.args.name c.cloud.ensures.canonical
      (omega (arith, c.if-entry.true, c.entry.ensures, c.entry-2.ensures)),
  λ _. refl,
)

pub returns-then-is_lacking : goal.returns-then-is_lacking
returns-then-is_lacking g c =
    let ds = c.cloud-dot-items.result.now in
    let x = c.dot-item.result in
    let here = in_cloud_at ds c.loop-dot.dot-index x c.loop-dot-test.true c.dot-item.is in (
      λ _. lacks_apart c.args.own.now c.args.other.now c.args.name c.cloud-dot-items.ensures.canonical x
          (ap (λ l. in_cloud l x) (sym c.cloud-dot-items.ensures.rest) ∙ here) (c.is_lacking.ensures.0 c.if-is_lacking.true),
      λ _. refl,
    )

pub returns : goal.returns
returns g c =
    let all = take_all c.cloud-dot-items.result.now c.loop-dot.dot-index c.loop-dot-test.false ∙ c.cloud-dot-items.ensures.rest in
    let none = lacks_none c.args.own.now c.args.other.now c.args.name (omega (arith, c.if-entry.false, c.entry.ensures, c.entry-2.ensures))
    (λ d h. c.loop-dot.invariant d (ap (λ ds. in_cloud ds d) all ∙ h)) in
    (λ h. absurd (cc h), λ h. absurd (none h))
