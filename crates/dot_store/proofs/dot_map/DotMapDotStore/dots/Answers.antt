use Rattle.std.proofs.Common.{◌≡◌, sym, ◌∙◌, subst}
use Rattle.std.specs.Prelude.{IsSome}
use Rattle.std.proofs.lemmas.Result.{IfOk-weaker}
use Rattle.causal_context.specs.Context.{has}
use Rattle.dot_store.specs.Store.{HoldsDot}
use Rattle.dot_store.specs.Stores.{at_stores}
use Rattle.dot_store.proofs.Halves.{held_of, all_held}
use Rattle.dot_store.proofs.dot_map.DotMapDotStore.dots.Goals as goal

pub returns-clause-only : goal.returns-clause-only
returns-clause-only g c =
    let at = g.S.DotStore.at in
    let cmp = g.K.Ord.cmp in
    let es = c.entries.result.now in
    let all : es ≡ c.args.self.now = c.entries.ensures.all ∙ c.self.view_is in
    IfOk-weaker c.dots_of.result _ _ (λ dots only d h. subst (λ l. HoldsDot (at_stores at cmp l) d) all
    (held_of at cmp g.met.K.Ord.total es (has dots) c.entries.ensures.ordered only d h)) c.dots_of.ensures.only

pub returns-clause-all : goal.returns-clause-all
returns-clause-all g c =
    let at = g.S.DotStore.at in
    let cmp = g.K.Ord.cmp in
    let es = c.entries.result.now in
    let all : es ≡ c.args.self.now = c.entries.ensures.all ∙ c.self.view_is in
    IfOk-weaker c.dots_of.result _ _ (λ dots each place d h. all_held at cmp g.met.K.Ord.total es (has dots) each place d
    (subst (λ l. IsSome (at_stores at cmp l place d)) (sym all) h)) c.dots_of.ensures.all
