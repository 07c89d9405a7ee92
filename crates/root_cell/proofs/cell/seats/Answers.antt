use Rattle.std.proofs.Common.{◌≡◌, ◌∙◌, ◌++◌, ◌∷◌, [], ap, replicate, arith}
use Rattle.std.proofs.lemmas.List.{replicate-append-replicate}
use Rattle.root_cell.proofs.Steps.{admits}
use Rattle.root_cell.proofs.cell.seats.Goals as goal

pub reader-requires : goal.reader-requires
reader-requires g c = admits g.J.Brand.book g.J.Brand.stands

pub loop-init : goal.loop-init
loop-init g c = c.new-views.ensures.items

pub loop-preserved : goal.loop-preserved
loop-preserved g c =
    c.in_ok-push.ensures.items ∙ ap (λ view. c.loop.views.items ++ view ∷ []) (c.new.ensures ∙ c.again.ensures ∙ c.requires)
    ∙ ap (λ views. views ++ [] ∷ []) c.loop.invariant ∙ replicate-append-replicate c.loop.counter 1 []

pub returns-clause-views : goal.returns-clause-views
returns-clause-views g c =
    let all : c.loop.counter ≡ c.args.places = omega (arith, c.loop.auto.counter-end, c.loop-test.false) in
    c.loop.invariant ∙ ap (λ n. replicate n []) all
