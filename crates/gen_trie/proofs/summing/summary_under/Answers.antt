use Rattle.std.proofs.Common.{◌≤◌, ◌-◌, length, arith, ap}
use Rattle.gen_trie.proofs.Sums.{none_there, some_there}
use Rattle.gen_trie.proofs.summing.summary_under.Goals as goal

pub returns-in-None-clause-summary : goal.returns-in-None-clause-summary
returns-in-None-clause-summary g c =
    let short : length c.args.prefix ≤ 7 = let same = c.depth-height.ensures.length in let bound = c.depth-height.ensures.bound in omega (arith, same, bound) in
    none_there g.M.Summary.calls c.args.root.now c.args.prefix short c.in-None.ensures

pub returns-in-Some-clause-summary : goal.returns-in-Some-clause-summary
returns-in-Some-clause-summary g c =
    let short : length c.args.prefix ≤ 7 = let same = c.depth-height.ensures.length in let bound = c.depth-height.ensures.bound in omega (arith, same, bound) in
    some_there g.M.Summary.calls c.args.root.now c.args.prefix c.in-Some.slot.now (7 - c.depth-height.result) c.sum_of-summary.result.1 short
    (ap (λ d. 7 - d) c.depth-height.ensures.length) c.in-Some.ensures.0
    c.sum_of-summary.ensures.summary
