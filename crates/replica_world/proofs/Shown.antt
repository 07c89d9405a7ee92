-- What a replica of a world shows.
use Rattle.op_model.proofs.Fresh.{NoReuse-part}
use Rattle.replica_model.proofs.Meant.{headline}
use Rattle.replica_model.proofs.Sound.{sound}
use Rattle.replica_core.proofs.Shows.{shows}
use Rattle.replica_world.specs.Showing.{WorldsShow}

pub worlds_show : WorldsShow
worlds_show hash_of events w runs clean name =
    let meant = headline hash_of events w runs clean in
    let is_sound = sound hash_of events w runs in
    shows hash_of (w.replica name).live (w.seen name) (NoReuse-part (w.seen name) w.made (is_sound.sets.seen name) is_sound.sets.no_reuse) (meant.live name)
