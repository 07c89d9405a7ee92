use Rattle.std.proofs.Common.{◌∙◌, ap}
use Rattle.hash_path.specs.Fnv1a.{fnv1a}
use Rattle.prefix_digest.specs.Page.{digest_at}
use Rattle.ginelm_c.proofs.Stored.{root_in}
use Rattle.ginelm_c.proofs.snapshot_reading_fields.root_digest.Goals as goal

pub returns : goal.returns
returns c =
    let frozen = c.frozen.ensures in let m = c.frozen.result.now.map in
    root_in c.args.there.now.store m frozen.map frozen.filled frozen.canonical c.digest.result
    (c.digest.ensures.value ∙ ap (λ p. digest_at fnv1a m p) c.root.ensures)
