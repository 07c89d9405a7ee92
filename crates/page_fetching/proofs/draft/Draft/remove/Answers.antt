use Rattle.std.proofs.Common.{◌∙◌, ap}
use Rattle.std.specs.FinMap as finite
use Rattle.page_fetching.proofs.Going.{removes}
use Rattle.page_fetching.proofs.draft.Draft.remove.Goals as goal

pub returns-clause-further : goal.returns-clause-further
returns-clause-further g c =
    let touched = c.self.view_is ∙ c.in_ok-touch.ensures.ok in
    removes c.args.self.now c.remove.new.self.hash c.remove.new.self.map c.self.inside.touched.map c.args.key.now
    (ap (λ t. t.hash) c.in_ok-remove.ensures.ok ∙ ap (λ b. b.hash) touched)
    (ap (λ b. b.touched) touched)
    (ap (λ t. t.map) c.in_ok-remove.ensures.ok ∙ ap (λ b. finite.remove b.entries c.args.key.now) touched)
