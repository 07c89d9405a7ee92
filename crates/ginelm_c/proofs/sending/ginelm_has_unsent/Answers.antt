use Rattle.std.proofs.Common.{◌∙◌, Some, IsTrue, refl, ap, sym}
use Rattle.std.specs.Prelude.{◌↔◌}
use Rattle.replica_model.specs.Step.{KnowsNone}
use Rattle.replica_core.specs.Meaning.{meaning}
use Rattle.ginelm_c.proofs.Calls.{given_back}
use Rattle.ginelm_c.proofs.sending.ginelm_has_unsent.Goals as goal

pub returns-clause-told : goal.returns-clause-told
returns-clause-told c x was = (
  refl,
  given_back (λ v w. IsTrue c.has_unsent.result ↔ (¬ KnowsNone (meaning v.replica).group)) c.deref.result.now x x x
      (ap Some c.deref.ensures ∙ (sym c.in-Some.ensures.held ∙ was)) refl c.has_unsent.ensures,
)
