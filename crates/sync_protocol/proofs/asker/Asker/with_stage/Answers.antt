use Rattle.std.proofs.Common.{sym, subst}
use Rattle.sync_protocol.specs.Asking.{GoesOnFrom, IsAsker}
use Rattle.sync_protocol.specs.Staged.{staged}
use Rattle.sync_protocol.proofs.asker.Asker.with_stage.Goals as goal

pub invariant_of-result : goal.invariant_of-result
invariant_of-result g c =
    let own = sym c.in-Ok.ensures.own in
    let seen = sym c.in-Ok.ensures.seen in
    let goes_on = subst (λ a. GoesOnFrom a (staged c.args.stage)) (sym c.self.view_is) c.requires in
    subst IsAsker (λ k. record { session = c.self.inside.session; hash = (own k).hash; own = (own k).map; seen = seen k; stage = staged c.args.stage })
    (c.self.invariant.0, goes_on)
