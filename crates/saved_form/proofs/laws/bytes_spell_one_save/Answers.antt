use Rattle.saved_form.proofs.Saves.{one_save, no_message}
use Rattle.saved_form.proofs.laws.bytes_spell_one_save.Goals as goal

pub returns-clause-one : goal.returns-clause-one
returns-clause-one c = one_save

pub returns-clause-no_message : goal.returns-clause-no_message
returns-clause-no_message c = no_message
