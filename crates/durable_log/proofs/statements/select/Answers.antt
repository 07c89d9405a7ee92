use Rattle.std.proofs.Common.{arith}
use Rattle.sqlite.specs.State.{HasCleanDisk}
use Rattle.sqlite.specs.Held.{state}
use Rattle.sqlite.proofs.StateLemmas.{survives_weaker}
use Rattle.durable_log.proofs.ReadLemmas.{reads, stays, commits_none, ok_then, ok_gives}
use Rattle.durable_log.proofs.statements.select.Goals as goal

pub returns-clause-strings : goal.returns-clause-strings
returns-clause-strings g c clean =
    let was : HasCleanDisk (state g.S.Store c.args.conn.now) = omega (arith, c.query_all.ensures.survives.clean) in
    ok_then c.query_all.result (λ rows. reads (state g.S.Store c.args.conn.now) (state g.S.Store c.query_all.new.self) rows.items (c.requires was).schema)
    (c.query_all.ensures.ok clean)

pub returns-clause-same : goal.returns-clause-same
returns-clause-same g c clean =
    let was : HasCleanDisk (state g.S.Store c.args.conn.now) = omega (arith, c.query_all.ensures.survives.clean) in
    ok_gives c.query_all.result (λ rows. stays (state g.S.Store c.args.conn.now) (state g.S.Store c.query_all.new.self) rows.items (c.requires was).schema)
    (c.query_all.ensures.ok clean)

pub returns-clause-any_moment : goal.returns-clause-any_moment
returns-clause-any_moment g c =
    survives_weaker (state g.S.Store c.args.conn.now) (state g.S.Store c.query_all.new.self) _ _
    (λ clean db by.
    let was : HasCleanDisk (state g.S.Store c.args.conn.now) = omega (arith, c.query_all.ensures.survives.clean) in
    commits_none (state g.S.Store c.args.conn.now) db (c.requires was).schema by) c.query_all.ensures.survives
