use Rattle.std.proofs.Common.{refl}
use Rattle.ginelm_c.specs.declared.texts.Texts.TheVariants as given
use Rattle.ginelm_c.proofs.Since.{tells_since}
use Rattle.ginelm_c.proofs.snapshot_taking.tell_changes.Goals as goal

pub returns-clause-ok : goal.returns-clause-ok
returns-clause-ok c =
    let found = c.in_ok-keys.ensures in
    tells_since c.args.older.now c.args.newer.now (given.Keys c.in_ok-keys.keys)
    c.frozen.result.now.map c.frozen-2.result.now.map c.frozen.ensures.map c.frozen-2.ensures.map
    found.ascending found.changed (found.all refl)
