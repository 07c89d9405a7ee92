use Rattle.std.proofs.Common.{◌≡◌, ℕ, ◌≤◌, List, sym, subst}
use Rattle.std.specs.Prelude.{IsTrue}
use Rattle.dots.specs.Dot.{DotValue}
use Rattle.ordered_list.proofs.Places.{items_more}
use Rattle.live_map.specs.Index.{names, has_key, IsInSpan}
use Rattle.live_map.proofs.touching.add_vector.Goals as goal

pub loop-name-preserved : goal.loop-name-preserved
loop-name-preserved g c =
    let e = c.loop-name-item.result in
    let kept = c.in_ok-find.ensures.kept in (
      items_more (λ e. (d : DotValue) (q : List ℕ) → d.name ≡ e.0 → 1 ≤ d.number → d.number ≤ e.1 → IsTrue (names c.args.index.now d q)
          → IsTrue (has_key c.find.new.touched q)) c.args.vector.now
          c.loop-name.name-index e c.loop-name-test.true c.loop-name-item.is
          (λ k other below d q same low high h. kept q (c.loop-name.invariant.0 k other below d q same low high h))
          (λ d q same low high h. c.in_ok-find.ensures.there d q
          (subst (λ first. IsInSpan first e.1 d) (sym c.dot_at.ensures) (record { name = same; from = low; to = high })) h),
      λ q h. kept q (c.loop-name.invariant.1 q h),
    )
