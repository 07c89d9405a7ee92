use Rattle.std.proofs.Common.{◌∙◌, ap, cond, false}
use Rattle.std.specs.Ordering.{is_eq}
use Rattle.live_map.specs.Index.{place_cmp, names}
use Rattle.live_map.proofs.index.Index.remove.Goals as goal

pub returns : goal.returns
unfolding names
returns g c = λ d q. c.remove.ensures.updates.0 (d, q) ∙ ap (λ keys. cond (is_eq (place_cmp c.args.place.now (d, q))) false (names keys d q)) c.self.view_is
