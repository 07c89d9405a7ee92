use Rattle.std.proofs.Common.{[], ◌∷◌, ◌++◌, ◌∙◌}
use Rattle.std.proofs.lemmas.Result.{IfOk-weaker}
use Rattle.std.specs.Prelude.{map}
use Rattle.page_fetching.specs.Taken.{taken_of}
use Rattle.sync_model.specs.Fetch.{children_of, to_ask}
use Rattle.sync_protocol.specs.Asking.{stage_with, asker_state}
use Rattle.sync_protocol.specs.Staged.{staged}
use Rattle.sync_protocol.specs.Turning.{Ignored, page_at_stage}
use Rattle.sync_protocol.specs.Turns.{turn_of}
use Rattle.sync_protocol.proofs.Turned.{turn_page, by_session}
use Rattle.sync_protocol.proofs.turning.page.Goals as goal

pub returns-clause-ok : goal.returns-clause-ok
returns-clause-ok g c =
    IfOk-weaker c.taken.result _ _
    (λ turn came. turn_page g.H.PathHash.hash_of
    (record {
      session = c.asker.inside.session;
      hash = c.asker.inside.own.hash;
      own = c.asker.inside.own.map;
      seen = c.asker.inside.seen;
      stage = staged c.asker.inside.stage;
    })
    c.args.asker.now c.in-Some.context.now c.in-Some.fetching.now (turn_of turn) (taken_of c.in_ok-came.came)
    c.args.sent.now c.asker.view_is c.in-Some.ensures.found c.in_ok-came.ensures.ok
    came
    ∙ by_session c.args.asker.now.session c.args.session c.is_of.result
    (page_at_stage (g.H.PathHash.hash_of c.args.asker.now.hash) c.args.asker.now.session
    (stage_with c.args.asker.now.own c.args.asker.now.seen c.args.asker.now.stage) c.args.sent.now) (asker_state c.args.asker.now, Ignored)
    c.is_of.ensures c.if-not-is_of.false)
    (c.taken.ensures.ok (map (λ d. c.args.sent.now.prefix ++ d.0 ∷ [])
    (to_ask (g.H.PathHash.hash_of c.asker.inside.own.hash) c.asker.inside.own.map c.args.sent.now.prefix (children_of c.args.sent.now.page)))
    c.in_ok-came.ensures.asks)
