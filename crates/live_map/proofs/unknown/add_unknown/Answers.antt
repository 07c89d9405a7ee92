use Rattle.std.proofs.Common.{◌≡◌, ◌∙◌, false, ap, sym, subst}
use Rattle.std.specs.Prelude.{IsTrue}
use Rattle.causal_context.specs.Context.{has, is_known}
use Rattle.dots.specs.Dot.{DotValue}
use Rattle.live_map.proofs.Brought.{on_ok_two}
use Rattle.live_map.proofs.Changing.{by_known}
use Rattle.live_map.proofs.unknown.add_unknown.Goals as goal

pub returns-clause-all : goal.returns-clause-all
returns-clause-all g c =
    let found = c.add_cloud.new.found in
    let own = c.args.known.now in
    let dots = c.args.dots.now in
    let vector = c.vector.result.now in
    let cloud = c.cloud.result.now in
    let same : (d : DotValue) → is_known vector cloud d ≡ has dots d = λ d. ap (λ list. is_known vector list d) c.cloud.ensures.rest
    ∙ sym (c.vector.ensures.has d) in
    on_ok_two c.add_cloud.result
    (λ there kept d known fresh. by_known d (IsTrue (has found d)) vector cloud
    (λ k e below name one up. kept d (c.in_ok-add_vector.ensures.there k e below d name one up known fresh))
    (λ k e below is. subst (λ x. IsTrue (has found x)) (sym is)
    (there k e below (subst (λ x. IsTrue (has dots x)) is known) (subst (λ x. has own x ≡ false) is fresh)))
    (same d ∙ known))
    c.add_cloud.ensures.there c.add_cloud.ensures.kept
