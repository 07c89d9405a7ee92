use Rattle.std.proofs.Common.{◌∙◌, ap, sym, subst}
use Rattle.std.specs.Prelude.{IsTrue}
use Rattle.causal_context.specs.Context.{has, is_known}
use Rattle.live_map.specs.Index.{names}
use Rattle.std.proofs.lemmas.Result.{on_ok_weaker}
use Rattle.live_map.proofs.Changing.{by_known}
use Rattle.live_map.proofs.index.Index.add_dots.Goals as goal

-- the last call's result is the function's
pub returns-clause-there : goal.returns-clause-there
returns-clause-there g c =
    on_ok_weaker c.add_cloud.result
    (λ there d h fresh.
    by_known d (IsTrue (names c.add_cloud.new.self d c.args.key.now)) c.vector.result.now c.cloud.result.now
    (λ k e below name one up. c.add_cloud.ensures.kept d c.args.key.now (c.in_ok-add_vector.ensures.there k e below d name one up fresh))
    (λ k e below is. subst (λ x. IsTrue (names c.add_cloud.new.self x c.args.key.now)) (sym is) (there k e below (ap (has c.args.known.now) (sym is) ∙ fresh)))
    (ap (λ cloud. is_known c.vector.result.now cloud d) c.cloud.ensures.rest ∙ sym (c.vector.ensures.has d) ∙ h))
    c.add_cloud.ensures.there
