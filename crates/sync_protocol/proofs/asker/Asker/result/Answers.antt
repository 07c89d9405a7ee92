use Rattle.std.proofs.Common.{refl, sym, ap}
use Rattle.sync_protocol.specs.Asking as asking
use Rattle.sync_protocol.specs.Staged.{staged}
use Rattle.sync_protocol.proofs.Turned.{comes_back}
use Rattle.sync_protocol.proofs.asker.Asker.result.Goals as goal

pub returns-in-Asked-clause-back : goal.returns-in-Asked-clause-back
returns-in-Asked-clause-back g c =
    let back = comes_back c.args.self c.self.inside.session c.self.inside.own.hash c.self.inside.own.map c.self.inside.seen (staged c.self.inside.stage)
    asking.Asked (sym c.self.view_is) (ap staged c.in-Asked.is) refl in
    (sym back.0, back.1)
