use Rattle.std.proofs.Common.{sym, ◌∙◌, ap}
use Rattle.sync_protocol.specs.Asking.{AskerValue, is_asked}
use Rattle.sync_protocol.specs.Staged.{staged}
use Rattle.sync_protocol.proofs.asker.Asker.is_asked.Goals as goal

pub returns-in-Asked : goal.returns-in-Asked
returns-in-Asked g c = ap is_asked (ap staged (sym c.in-Asked.is)) ∙ ap (λ (a : AskerValue _). is_asked a.stage) c.self.view_is
