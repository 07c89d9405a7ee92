use Rattle.std.proofs.Common.{◌≡◌, false, subst}
use Rattle.sqlite.specs.State.{HasCleanDisk}
use Rattle.sqlite.specs.Files.{over_files}
use Rattle.sqlite_wal.specs.Reads.{AreClean}
use Rattle.durable_log.specs.Log.{LogValue, log_state, IsInFiles}
use Rattle.durable_log.proofs.LogLemmas.{in_files}
use Rattle.durable_log.proofs.log.Log+FileStore+D.close_files.Goals as goal

pub returns-in-Ok : goal.returns-in-Ok
returns-in-Ok g c = record {
  held = subst (λ (v : LogValue _). v.is_failed ≡ false → AreClean g.D.Disk c.in-Ok.files.log c.in-Ok.files.db → HasCleanDisk (log_state over_files v)
      × IsInFiles g.D.Disk c.in-Ok.files (log_state over_files v).now.trees) c.self.view_is
      (λ fresh clean.
      let copied = c.in-Ok.ensures.copied clean in
      (copied.was_clean, in_files c.self.inside.conn c.in-Ok.files (c.self.invariant fresh copied.was_clean) copied));
}
