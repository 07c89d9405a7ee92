use Rattle.std.proofs.Common.{◌∙◌, ap}
use Rattle.std.specs.FinMap as finite
use Rattle.page_fetching.proofs.Asks.{complete_is}
use Rattle.page_fetching.proofs.fetching.Fetching.is_complete.Goals as goal

pub returns : goal.returns
returns g c = complete_is c.args.self.now.waiting c.size.result (c.size.ensures ∙ ap (λ f. finite.len f.waiting) c.self.view_is)
