use Rattle.std.proofs.Common.{◌≤◌, length, sym, ◌∙◌, ap, subst}
use Rattle.std.specs.List.{AllByRecursion}
use Rattle.hash_path.specs.Path.{last_index}
use Rattle.wire_form.specs.Page as form
use Rattle.wire_form.specs.Sent.{CanStand}
use Rattle.page_fetching.proofs.fitting.to_ask.Goals as goal

pub children_to_ask-requires-clause-indices : goal.children_to_ask-requires-clause-indices
children_to_ask-requires-clause-indices g c =
    let page = ap form.value_of (sym c.in-Branch.is) ∙ c.page.ensures.page in
    let stands = subst (CanStand (length c.args.sent.now.prefix)) (sym page) c.page.ensures.lawful.stands in
    subst (λ prefix. AllByRecursion (λ child. child.0 ≤ last_index (length prefix)) c.deref.result.now) (sym c.prefix-prefix.ensures)
    (subst (AllByRecursion (λ child. child.0 ≤ last_index (length c.args.sent.now.prefix))) (sym c.deref.ensures.value) stands.2)
