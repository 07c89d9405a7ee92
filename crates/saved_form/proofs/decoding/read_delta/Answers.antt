use Rattle.std.proofs.lemmas.Result.{err_from_is_err_and}
use Rattle.saved_form.proofs.Saves.{delta_refused}
use Rattle.saved_form.proofs.decoding.read_delta.Goals as goal

pub returns-in_err-other : goal.returns-in_err-other
returns-in_err-other g c =
    let p = err_from_is_err_and c.from_residual.result c.from_residual.ensures.1 in
    rw (p.1, p.2) (delta_refused c.args.bytes.now c.in_err-other.field-0.0 c.in_err-other.ensures.not_a_message c.in_err-other.ensures.err)
