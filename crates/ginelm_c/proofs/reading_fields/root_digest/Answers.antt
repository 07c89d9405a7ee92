use Rattle.ginelm_c.proofs.reading_fields.root_digest.Goals as goal

pub returns : goal.returns
returns c = record { map = c.digest.ensures.0; is_map = c.digest.ensures.1; same = c.digest.ensures.2 }
