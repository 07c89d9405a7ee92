use Rattle.std.proofs.Common.{◌≤◌, ◌<◌, sym, ap, ◌∙◌, arith}
use Rattle.std.proofs.lemmas.Bool.{le-leb}
use Rattle.causal_context.specs.Context.{has, known_up_to, in_cloud}
use Rattle.causal_context.proofs.Dots.{list_any-dot_cmp}
use Rattle.causal_context.proofs.Known.{known_below, known_above}
use Rattle.causal_context.proofs.context.Context.contains.Goals as goal

pub returns-then-number-known_up_to : goal.returns-then-number-known_up_to
unfolding has
returns-then-number-known_up_to g c =
    let vector = c.self.inside.vector in
    let entry = ap (known_up_to vector) c.name.ensures in
    let below : c.args.dot.number ≤ known_up_to vector c.args.dot.name = omega (arith, entry) in
    le-leb c.number.result c.known_up_to.result c.if-number-known_up_to.true
    ∙ sym (known_below (known_up_to vector) (in_cloud c.self.inside.cloud) c.args.dot (omega arith) below) ∙ ap (λ x. has x c.args.dot) c.self.view_is

pub returns-else-number-known_up_to : goal.returns-else-number-known_up_to
unfolding has
returns-else-number-known_up_to g c =
    let vector = c.self.inside.vector in
    let entry = ap (known_up_to vector) c.name.ensures in
    let above : known_up_to vector c.args.dot.name < c.args.dot.number = omega (arith, entry) in
    c.contains.ensures ∙ list_any-dot_cmp c.args.dot c.self.inside.cloud
    ∙ known_above (known_up_to vector) (in_cloud c.self.inside.cloud) c.args.dot (omega arith) above ∙ ap (λ x. has x c.args.dot) c.self.view_is
