use Rattle.sqlite.specs.Held.{state}
use Rattle.sqlite.proofs.StateLemmas.{survives_weaker}
use Rattle.durable_log.proofs.LogLemmas.{creates, commits_none}
use Rattle.durable_log.proofs.statements.create.Goals as goal

pub returns-clause-made : goal.returns-clause-made
returns-clause-made g c clean =
    creates (state g.S.Store c.args.conn.now) (state g.S.Store c.execute.new.self)
    (λ db is_open may. g.met.S.Store.settled c.execute.new.self.store db is_open may) c.execute.result c.requires.schema c.requires.autocommit
    (c.execute.ensures.runs clean)

pub returns-clause-any_moment : goal.returns-clause-any_moment
returns-clause-any_moment g c =
    survives_weaker (state g.S.Store c.args.conn.now) (state g.S.Store c.execute.new.self) _ _
    (λ clean db by. commits_none (state g.S.Store c.args.conn.now) db c.requires.schema by) c.execute.ensures.survives
