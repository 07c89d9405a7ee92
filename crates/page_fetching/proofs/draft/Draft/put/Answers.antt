use Rattle.std.proofs.Common.{◌∙◌, ap}
use Rattle.std.specs.FinMap as finite
use Rattle.page_fetching.proofs.Going.{puts, nothing_put, something_put, is_nothing, is_something}
use Rattle.page_fetching.proofs.draft.Draft.put.Goals as goal

pub returns-then-is_empty-clause-entries : goal.returns-then-is_empty-clause-entries
returns-then-is_empty-clause-entries g c =
    nothing_put c.args.key c.args.fields c.args.self.now.entries
    (is_nothing c.args.fields c.entries.result.now c.is_empty.result c.entries.ensures.rest c.is_empty.ensures c.if-is_empty.true)

pub returns-clause-entries : goal.returns-clause-entries
returns-clause-entries g c =
    let touched = c.self.view_is ∙ c.in_default.ensures.ok in
    something_put c.args.key c.args.fields c.args.self.now.entries c.insert.new.self.map
    (is_something c.args.fields c.entries.result.now c.is_empty.result c.entries.ensures.rest c.is_empty.ensures c.if-is_empty.false)
    (ap (λ t. t.map) c.in_ok-insert.ensures.ok ∙ ap (λ b. finite.insert b.entries c.args.key c.args.fields) touched)

pub returns-clause-further : goal.returns-clause-further
returns-clause-further g c =
    let touched = c.self.view_is ∙ c.in_default.ensures.ok in
    puts c.args.self.now c.insert.new.self.hash c.insert.new.self.map c.self.inside.touched.map c.args.key c.args.fields
    (ap (λ t. t.hash) c.in_ok-insert.ensures.ok ∙ ap (λ b. b.hash) touched)
    (ap (λ b. b.touched) touched)
    (ap (λ t. t.map) c.in_ok-insert.ensures.ok ∙ ap (λ b. finite.insert b.entries c.args.key c.args.fields) touched)
