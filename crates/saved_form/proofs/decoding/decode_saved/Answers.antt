use Rattle.saved_form.specs.Saved.{saved_value}
use Rattle.saved_form.proofs.Saves.{only_save}
use Rattle.saved_form.proofs.decoding.decode_saved.Goals as goal

pub returns-clause-only : goal.returns-clause-only
returns-clause-only g c = only_save saved_value c.args.bytes.now c.read_whole.result c.read_whole.ensures
