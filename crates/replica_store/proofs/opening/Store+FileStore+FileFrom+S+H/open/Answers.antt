use Rattle.replica_store.proofs.Back.{if_ok}
use Rattle.replica_store.proofs.opening.Store+FileStore+FileFrom+S+H.open.Goals as goal

pub returns-in-Ok-clause-back : goal.returns-in-Ok-clause-back
returns-in-Ok-clause-back g c = if_ok c.over.result (λ store back clean. (c.in-Ok.log, c.in-Ok.ensures.found, back clean)) c.over.ensures.back
