use Rattle.std.proofs.Common.{List, ℕ, ◌++◌, ◌∷◌, ◌≤◌, [], Bool, length, not, sym, ◌∙◌, ap, subst}
use Rattle.std.specs.Prelude.{◌||◌}
use Rattle.std.specs.List.{list_all, AllByRecursion}
use Rattle.causal_context.specs.Context.{has}
use Rattle.hash_path.specs.Map.{walk_under}
use Rattle.hash_path.specs.Path.{last_index}
use Rattle.wire_form.specs.Page as form
use Rattle.wire_form.specs.Sent.{CanStand}
use Rattle.sync_model.specs.Fetch.{within}
use Rattle.sync_model.specs.Fetch as model
use Rattle.page_fetching.proofs.fitting.fits.Goals as goal

pub returns-in-Branch : goal.returns-in-Branch
returns-in-Branch g c =
    let f = g.H.PathHash.hash_of c.args.own.now.hash in
    let kept : List ℕ → ℕ × List ℕ → Bool =
    λ p child. not (model.is_own f c.args.own.now.map p child) || within (has c.args.known.now) (walk_under f (p ++ child.0 ∷ []) c.args.own.now.map) in
    let page = ap form.value_of (sym c.in-Branch.is) ∙ c.page-page.ensures.page in
    c.keeps_known.ensures ∙ ap (list_all (kept c.prefix-prefix.result)) c.deref.ensures.value
    ∙ ap (λ p. list_all (kept p) c.in-Branch.children.items) c.prefix-prefix.ensures
    ∙ ap (model.fits f c.args.own.now.map (has c.args.known.now) c.args.sent.now.prefix) page

pub keeps_known-requires-clause-indices : goal.keeps_known-requires-clause-indices
keeps_known-requires-clause-indices g c =
    let page = ap form.value_of (sym c.in-Branch.is) ∙ c.page-page.ensures.page in
    let stands = subst (CanStand (length c.args.sent.now.prefix)) (sym page) c.page-page.ensures.lawful.stands in
    subst (λ prefix. AllByRecursion (λ child. child.0 ≤ last_index (length prefix)) c.deref.result.now) (sym c.prefix-prefix.ensures)
    (subst (AllByRecursion (λ child. child.0 ≤ last_index (length c.args.sent.now.prefix))) (sym c.deref.ensures.value) stands.2)
