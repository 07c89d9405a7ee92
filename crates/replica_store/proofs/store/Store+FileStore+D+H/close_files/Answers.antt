use Rattle.std.proofs.Common.{◌≡◌, false, subst}
use Rattle.sqlite.specs.Files.{over_files}
use Rattle.sqlite_wal.specs.Reads.{AreClean}
use Rattle.durable_log.specs.Log.{log_state}
use Rattle.replica_core.specs.Meaning.{meaning}
use Rattle.replica_store.specs.Kept.{IsKeptIn}
use Rattle.replica_store.specs.Store.{StoreValue}
use Rattle.replica_store.proofs.store.Store+FileStore+D+H.close_files.Goals as goal

pub returns-in-Ok : goal.returns-in-Ok
returns-in-Ok g c = record {
  held = subst (λ (v : StoreValue _ _). v.is_failed ≡ false → AreClean g.D.Disk c.in-Ok.files.log c.in-Ok.files.db
      → IsKeptIn g.D.Disk c.in-Ok.files (meaning v.replica)) c.self.view_is
      (λ fresh clean.
      let holds = c.self.invariant fresh in
      let both = c.in-Ok.ensures.held holds.0 clean in
      ((log_state over_files c.self.inside.log).now.trees, both.1, holds.1 both.0));
}
