use Rattle.live_map.proofs.Changing.{none_stands}
use Rattle.live_map.proofs.bringing.held_at.Goals as goal

pub returns-clause-ok : goal.returns-clause-ok
returns-clause-ok g c = record {
  here = c.in_default.ensures.here;
  only = c.in_default.ensures.only (λ place d h. none_stands _ _ (c.empty-held.ensures place d) h);
}
