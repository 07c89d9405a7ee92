use Rattle.std.proofs.Common.{◌≡◌, rules, of_calls}
use Rattle.std.specs.Prelude.{not, nat_lt, ◌&&◌}
use Rattle.std.proofs.lemmas.Fn.{filter_same}
use Rattle.replica_world.specs.Happening.{event_value}
use Rattle.replica_world.specs.Held.{is_act}
use Rattle.replica_world.specs.declared.accepted.Accepted.{Accepted}
use Rattle.replica_world.proofs.preparing.take_back.Goals as goal

pub returns-clause-items : goal.returns-clause-items
returns-clause-items g c =
    filter_same _ (λ a. not (is_act c.args.name (event_value a.event) && not (nat_lt a.saves c.args.saves))) _ (λ x b f' k. search (rules, of_calls))
    _ _ c.retain.ensures.filtered
