use Rattle.sqlite_wal.specs.Files.{image_at}
use Rattle.sqlite.specs.Files.{file_state, over_files}
use Rattle.durable_log.specs.Log.{log_state}
use Rattle.durable_log.proofs.LogLemmas.{opened_as}
use Rattle.durable_log.proofs.ReadLemmas.{ok_then}
use Rattle.durable_log.proofs.log.Log+FileStore+FileFrom+S.open.Goals as goal

pub over-requires-clause-opened : goal.over-requires-clause-opened
over-requires-clause-opened g c clean = (c.in-Ok.ensures.opened clean).0

pub returns-in-Ok-clause-found : goal.returns-in-Ok-clause-found
returns-in-Ok-clause-found g c =
    ok_then c.over.result (λ log begun clean.
    let both = begun clean in
    let opened = c.in-Ok.ensures.opened both.0 in
    opened_as (image_at g.S.Start) (file_state c.in-Ok.conn) (log_state over_files log) opened.0 opened.1 (c.in-Ok.ensures.found both.0) both.1)
    c.over.ensures.found
