use Rattle.std.proofs.Common.{◌≡◌, sym, ap, ◌∙◌}
use Rattle.std.specs.Map.{keys_of}
use Rattle.std.specs.Cmp.{eq_by_cmp_equiv}
use Rattle.std.proofs.lemmas.Map.Keys.{IsDistinct-from_sorted}
use Rattle.std.proofs.lemmas.Map.Views.{Contains-from_lookup, lookup-from_Contains}
use Rattle.causal_context.specs.Dots.{dot_cmp}
use Rattle.causal_context.proofs.Dots.{dot_cmp_total, dot_exact}
use Rattle.dot_store.specs.Stores.{at_values}
use Rattle.dot_store.proofs.Values.{at_values-found}
use Rattle.ordered_list.proofs.Walked.{same_key}
use Rattle.dot_store.proofs.dot_fun.DotFun.entries.Goals as goal

pub returns-clause-held : goal.returns-clause-held
unfolding at_values
returns-clause-held g c = λ place d v.
    let es = c.entries.result.now in
    let all : es ≡ c.args.self.now = c.entries.ensures.all ∙ c.self.view_is in
    let found = ap (λ l. at_values l place d) all in (
      λ h. Contains-from_lookup (same_key dot_cmp dot_exact) d v es (sym (at_values-found es place d) ∙ found ∙ h),
      λ h. sym found ∙ at_values-found es place d ∙ lookup-from_Contains (eq_by_cmp_equiv dot_cmp_total) d v es
          (IsDistinct-from_sorted dot_cmp (keys_of es) c.entries.ensures.ordered) h,
    )
