use Rattle.std.proofs.Common.{◌∙◌, Some, ap, sym}
use Rattle.op_model.specs.Place.{place_of}
use Rattle.replica_model.specs.Step.{Do, RemoveField, Counted}
use Rattle.ginelm_c.specs.Handling.{Makes}
use Rattle.ginelm_c.proofs.Calls.{done_so, given_back}
use Rattle.ginelm_c.proofs.writing.ginelm_remove_field.Goals as goal

pub returns-clause-done : goal.returns-clause-done
returns-clause-done c zero x y was is =
    given_back (λ v w. Makes v w (Do (RemoveField (place_of c.args.key.now c.args.field.now))) (Counted c.remove_field.new.observed))
    c.deref_mut.result.now _ x y
    (ap Some c.deref_mut.ensures.value ∙ (sym c.in-Some.ensures.held ∙ was)) (sym c.give.ensures.held ∙ is)
    (done_so c.remove_field.result _ (c.told-answer.ensures.zero zero) c.remove_field.ensures.ok)
