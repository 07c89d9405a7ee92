use Rattle.std.proofs.Common.{◌≡◌, ◌∙◌, ◌<◌, ap, sym, subst}
use Rattle.std.specs.Prelude.{IsTrue}
use Rattle.causal_context.specs.Context.{has, is_known, known_up_to}
use Rattle.dots.specs.Dot.{DotValue}
use Rattle.std.proofs.lemmas.Result.{on_ok_weaker}
use Rattle.live_map.specs.Index.{names, has_key}
use Rattle.live_map.proofs.Changing.{by_known}
use Rattle.live_map.proofs.Unchanged.{above_seen}
use Rattle.live_map.proofs.closing.touch_since.Goals as goal

pub returns-clause-ok : goal.returns-clause-ok
returns-clause-ok g c =
    let keys = c.add_cloud_since.new.keys in
    let seen = c.args.seen.now in
    let vector = c.vector.result.now in
    let cloud = c.cloud.result.now in
    let same : (d : DotValue) → is_known vector cloud d ≡ has c.args.context.now d = λ d. ap (λ list. is_known vector list d) c.cloud.ensures.rest
    ∙ sym (c.vector.ensures.has d) in
    on_ok_weaker c.add_cloud_since.result
    (λ there. record {
      own = λ q h. c.add_cloud_since.ensures.kept q (c.in_ok-add_vector_since.ensures.kept q (c.in_ok-add_touched.ensures.there q h));
      named = λ d q named known fresh.
          by_known d (IsTrue (has_key keys q)) vector cloud
          (λ k e below name one up. c.add_cloud_since.ensures.kept q
          (c.in_ok-add_vector_since.ensures.there k e below d q name
          (subst (λ n. known_up_to seen.vector n < d.number) name (above_seen seen d one fresh)) up named))
          (λ k e below is. there k e below (ap (has seen) (sym is) ∙ fresh) q (subst (λ x. IsTrue (names c.args.index.now x q)) is named))
          (same d ∙ known);
    })
    c.add_cloud_since.ensures.there
