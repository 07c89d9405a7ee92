use Rattle.std.proofs.Common.{◌≡◌, arith, to_z-of_z}
use Rattle.sqlite.specs.State.{HasCleanDisk}
use Rattle.sqlite.specs.Held.{state}
use Rattle.sqlite.proofs.StateLemmas.{survives_weaker}
use Rattle.durable_log.specs.Log.{IsReady}
use Rattle.durable_log.proofs.DropLemmas.{dropped, drop_commits}
use Rattle.durable_log.proofs.statements.delete_others.Goals as goal

pub returns-clause-left : goal.returns-clause-left
returns-clause-left g c clean =
    let old = state g.S.Store c.args.conn.now in
    let new = state g.S.Store c.execute.new.self in
    let was : HasCleanDisk old = omega (arith, c.execute.ensures.survives.clean) in
    let ready : IsReady old = c.requires was in
    dropped c.args.first c.args.second c.args.third old new ready (λ db is_open may. g.met.S.Store.settled c.execute.new.self.store db is_open may)
    c.execute.result
    (simp (to_z-of_z, c.ranges.first, c.ranges.second, c.ranges.third) at
    (rw (c.params-to_sql.ensures, c.params-to_sql-2.ensures, c.params-to_sql-3.ensures) at (c.execute.ensures.runs clean)))

pub returns-clause-any_moment : goal.returns-clause-any_moment
returns-clause-any_moment g c =
    let old = state g.S.Store c.args.conn.now in
    survives_weaker old (state g.S.Store c.execute.new.self) _ _
    (λ clean db by.
    let was : HasCleanDisk old = omega (arith, c.execute.ensures.survives.clean) in
    drop_commits c.args.first c.args.second c.args.third old (state g.S.Store c.execute.new.self) (c.requires was) db
    (simp (to_z-of_z, c.ranges.first, c.ranges.second, c.ranges.third) at
    (rw (c.params-to_sql.ensures, c.params-to_sql-2.ensures, c.params-to_sql-3.ensures) at by))) c.execute.ensures.survives
