use Rattle.std.proofs.Common.{Some, sym, ap, ◌∙◌}
use Rattle.std.specs.Option.{option_map}
use Rattle.wire_form.specs.Page.{value_of, spelled}
use Rattle.prefix_digest.proofs.pages.page.Goals as goal

pub returns-in_ok-bytes-in-Some-clause-ok : goal.returns-in_ok-bytes-in-Some-clause-ok
returns-in_ok-bytes-in-Some-clause-ok g c =
    ap Some c.in_ok-bytes-in-Some.ensures.ok ∙ ap (λ o. option_map spelled (option_map value_of o)) (sym c.in-Some.is)
    ∙ ap (option_map spelled) c.in_ok-page_value.ensures.ok
