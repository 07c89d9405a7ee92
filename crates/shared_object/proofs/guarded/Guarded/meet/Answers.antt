use Rattle.std.proofs.Common.{◌≡◌, length, ap, ◌∙◌, arith}
use Rattle.std.proofs.lemmas.Bool.Decides.{nat_tests}
use Rattle.shared_object.proofs.Calls.{prefix_between}
use Rattle.shared_object.proofs.guarded.Guarded.meet.Goals as goal

pub returns-clause-whole : goal.returns-clause-whole
returns-clause-whole g c is =
    let events : c.events.result ≡ c.self.inside.events = grind (arith, nat_tests) in
    let whole = prefix_between c.tell.result c.learn.new.self c.in-Ok.entered.1 c.learn.ensures.told c.in-Ok.ensures.later
    (omega (arith, events, c.events.ensures, c.self.invariant.1, ap length c.tell.ensures)) in
    c.leave-view.ensures ∙ (whole ∙ (c.tell.ensures ∙ c.self.view_is))

-- the count of this place, which is as many as the client made
pub returns-clause-own : goal.returns-clause-own
returns-clause-own g c is = omega (arith, c.count.ensures, c.if-count-operations.false)
