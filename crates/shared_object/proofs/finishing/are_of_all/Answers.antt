use Rattle.std.proofs.Common.{◌≡◌, ◌∙◌, ◌+◌, ◌≤◌, length, length-append, rules, arith}
use Rattle.shared_object.proofs.Handed.{of_all_tested}
use Rattle.shared_object.proofs.finishing.are_of_all.Goals as goal

-- there are as many as places were taken
pub returns : goal.returns
returns g c =
    let few : length c.args.back.now ≤ c.args.taken = search rules in
    let rest : length c.args.back.now + length c.args.clients.now ≡ c.args.taken = search (rules, arith) in
    of_all_tested c.args.back.now c.args.clients.now c.args.taken (length-append c.args.back.now c.args.clients.now ∙ rest) c.has_each.result c.has_each.ensures
