use Rattle.std.proofs.Common.{rules, arith}
use Rattle.shared_object.proofs.finishing.are_all.Goals as goal

pub returns : goal.returns
returns g c is = record {
  count = c.requires.0;
  own = c.meet_all.ensures is;
  each = c.requires.1;
  others = search rules;
  sum = omega (arith, c.in-Some.ensures, c.events.ensures);
}
