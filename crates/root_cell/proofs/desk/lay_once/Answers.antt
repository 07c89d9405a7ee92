use Rattle.std.proofs.Common.{ap, drop, [], ◌∷◌}
use Rattle.std.proofs.lemmas.List.Sums.{fold-append}
use Rattle.root_cell.proofs.desk.lay_once.Goals as goal

-- src/desk.rt
pub returns-in-Ok-clause-due : goal.returns-in-Ok-clause-due
returns-in-Ok-clause-due g c = rw c.in-Ok.ensures.pending (fold-append _ _ (drop c.args.desk.behind c.args.desk.log.items) (c.args.published ∷ []))

pub returns-in-Ok-clause-shown : goal.returns-in-Ok-clause-shown
returns-in-Ok-clause-shown g c = ap (λ desk. desk.shown.value) c.in-Ok.ensures.desk

pub returns-in-Err-clause-back : goal.returns-in-Err-clause-back
returns-in-Err-clause-back g c = (ap (λ desk. desk.shown.value) c.in-Err.ensures.desk, c.in-Err.ensures.pending.0)
