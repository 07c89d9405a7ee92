use Rattle.ginelm_c.proofs.Stored.{key_in}
use Rattle.ginelm_c.proofs.snapshot_reading.has_key.Goals as goal

pub returns : goal.returns
returns c =
    let frozen = c.frozen.ensures in
    key_in c.args.there.now.store c.frozen.result.now.map frozen.map frozen.filled frozen.canonical c.args.key.now c.lookup.result c.is_some.result
    c.is_some.ensures c.lookup.ensures
