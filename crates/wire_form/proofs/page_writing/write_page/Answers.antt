use Rattle.std.proofs.Common.{◌++◌, ◌∷◌, [], ap, sym, subst, ◌∙◌, append_assoc}
use Rattle.std.specs.List.{flat_map, AllByRecursion}
use Rattle.std.proofs.lemmas.Result.{on_ok_weaker}
use Rattle.wire_form.specs.Page as form
use Rattle.wire_form.specs.Writing.{Appends}
use Rattle.wire_form.proofs.page_writing.write_page.Goals as goal

pub returns-in_ok-push-in-Keys-clause-ok : goal.returns-in_ok-push-in-Keys-clause-ok
returns-in_ok-push-in-Keys-clause-ok g c =
    let old = c.args.out.now.items in
    let mid = c.push-in-Keys.new.self.items in
    let new = c.append_each.new.out.items in
    let entries = c.in-Keys.entries.items in
    on_ok_weaker c.append_each.result (λ p.
    let written : Appends (flat_map form.entry) (AllByRecursion form.IsEntry) mid new entries =
    subst (Appends (flat_map form.entry) (AllByRecursion form.IsEntry) mid new) c.deref.ensures.value p in
    subst (λ page. Appends form.spelled form.ArePartsOf old new (form.value_of page)) (sym c.in-Keys.is) (record {
      fits = written.fits;
      parts = written.parts ∙ ap (λ t. t ++ flat_map form.entry entries) c.in_ok-push-in-Keys.ensures.items ∙ append_assoc old (1 ∷ []) (flat_map form.entry entries);
    }))
    c.append_each.ensures.ok
