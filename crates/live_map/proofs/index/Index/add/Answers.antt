use Rattle.std.proofs.Common.{◌∙◌, sym, subst}
use Rattle.std.specs.Prelude.{IsTrue}
use Rattle.live_map.specs.Index.{names}
use Rattle.live_map.proofs.Members.{kept_by}
use Rattle.live_map.proofs.index.Index.add.Goals as goal

pub returns-clause-kept : goal.returns-clause-kept
unfolding names
returns-clause-kept g c = λ d q h. c.in_ok-insert.ensures.updates.0 (d, q) ∙ kept_by _ _ (subst (λ keys. IsTrue (names keys d q)) (sym c.self.view_is) h)
