use Rattle.std.proofs.Common.{◌≡◌, ℕ, inl, inr, arith}
use Rattle.sqlite.specs.State.{HasCleanDisk}
use Rattle.sqlite.specs.Held.{state}
use Rattle.durable_log.specs.Log.{IsReady}
use Rattle.durable_log.proofs.LogLemmas.{kept, placed_or, commits}
use Rattle.durable_log.proofs.statements.add.Goals as goal

pub returns-clause-acknowledged : goal.returns-clause-acknowledged
returns-clause-acknowledged g c clean =
    let old = state g.S.Store c.args.conn.now in
    let new = state g.S.Store c.execute.new.self in
    let was : HasCleanDisk old = omega (arith, c.execute.ensures.survives.clean) in
    let ready : IsReady old = c.requires was in
    kept old new c.args.string.now ready.schema ready.autocommit
    (λ db is_open may. g.met.S.Store.settled c.execute.new.self.store db is_open may) c.execute.result
    (rw c.params-to_sql.ensures at (c.execute.ensures.runs clean))

pub returns-clause-any_moment : goal.returns-clause-any_moment
returns-clause-any_moment g c =
    let old = state g.S.Store c.args.conn.now in
    let new = state g.S.Store c.execute.new.self in
    let s = c.execute.ensures.survives in
    record {
      clean = s.clean;
      shield = s.shield;
      counts = s.counts;
      limit = s.limit;
      closes = s.closes;
      crash = λ clean db may. elim (s.crash clean db may) [
        | inl was ↦ inl was
        | inr by ↦
            let old_clean : HasCleanDisk old = omega (arith, s.clean) in
            let ready : IsReady old = c.requires old_clean in
            inr (commits old new c.args.string.now ready.schema ready.autocommit db (rw c.params-to_sql.ensures at by))
      ];
    }

pub returns-clause-placed : goal.returns-clause-placed
returns-clause-placed g c clean =
    let old = state g.S.Store c.args.conn.now in
    let new = state g.S.Store c.execute.new.self in
    let was : HasCleanDisk old = omega (arith, c.execute.ensures.survives.clean) in
    let ready : IsReady old = c.requires was in
    placed_or old new c.args.string.now ready.schema ready.autocommit c.execute.result (rw c.params-to_sql.ensures at (c.execute.ensures.runs clean))
