use Rattle.std.proofs.Common.{arith}
use Rattle.std.proofs.lemmas.Grind.{common_steps}
use Rattle.saved_form.specs.Saved.{saved_value}
use Rattle.saved_form.proofs.Saves.{reads_saved}
use Rattle.saved_form.proofs.decoding.read_whole.Goals as goal

pub returns-in-3 : goal.returns-in-3
returns-in-3 g c = reads_saved saved_value c.args.bytes.now _ c.read_body.result (grind (arith, common_steps)) c.read_body.ensures
