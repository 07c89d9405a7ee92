use Rattle.saved_form.proofs.Saves.{one_saved_spelling}
use Rattle.saved_form.proofs.laws.what_was_saved_has_one_spelling.Goals as goal

pub returns : goal.returns
returns c = one_saved_spelling
