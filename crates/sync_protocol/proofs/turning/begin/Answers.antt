use Rattle.std.proofs.Common.{[], ◌∷◌, sym, ◌∙◌, ap}
use Rattle.std.proofs.lemmas.Result.{IfOk-weaker}
use Rattle.std.specs.Prelude.{map}
use Rattle.std.specs.FinMap as finite
use Rattle.causal_context.specs.Context.{has}
use Rattle.wire_form.specs.Message.{Ask, message_of}
use Rattle.sync_model.specs.Fetch.{take_opening}
use Rattle.page_fetching.specs.Taking.{begun}
use Rattle.sync_protocol.specs.Asking.{Waits, stage_with, start}
use Rattle.sync_protocol.specs.Turning.{Mismatch, at_stage, comes_to}
use Rattle.sync_protocol.specs.Turns.{turn_of}
use Rattle.sync_protocol.proofs.Turned.{starts_there, begun_built, turn_begun}
use Rattle.sync_protocol.proofs.turning.begin.Goals as goal

pub go_on-requires : goal.go_on-requires
go_on-requires g c =
    starts_there (start c.args.asker.now) c.in-Some.fetching.built
    (begun_built c.in_ok-begun.begun c.in-Some.fetching (record { hash = c.asker.inside.own.hash; entries = c.asker.inside.own.map; touched = finite.empty })
    c.in-Some.is c.in_ok-begun.ensures.built
    ∙ ap start c.asker.view_is)

pub returns-in-None-clause-ok : goal.returns-in-None-clause-ok
returns-in-None-clause-ok g c told is =
    let a = c.args.asker.now in
    IfOk-weaker c.stays.result _ _
    (λ turn came. came ∙ ap (λ stage. (at_stage a.session (stage_with a.own a.seen stage), Mismatch)) c.requires
    ∙ ap (comes_to a.session a.own a.seen c.args.context.now (Waits a.own a.seen) (Ask a.session [] ∷ []))
    (sym (ap begun c.in-None.is) ∙ c.in_ok-begun.ensures.ok told is
    ∙ ap (λ v. take_opening (g.H.PathHash.hash_of v.hash) v.own (has v.seen) (has c.args.context.now) told) c.asker.view_is))
    c.stays.ensures.ok

pub returns-in-Some-clause-ok : goal.returns-in-Some-clause-ok
returns-in-Some-clause-ok g c told is =
    IfOk-weaker c.go_on.result _ _
    (λ turn came. turn_begun c.args.asker.now (turn_of turn) c.args.context.now (map message_of c.in_ok-asks.asks.items) c.in-Some.fetching c.in_ok-begun.begun
    (take_opening (g.H.PathHash.hash_of c.args.asker.now.hash) c.args.asker.now.own (has c.args.asker.now.seen) (has c.args.context.now) told)
    came (c.in_ok-asks.ensures.ok ∙ (λ k. Ask (c.asker.view_is k).session (c.root.ensures k) ∷ [])) c.in-Some.is
    (c.in_ok-begun.ensures.ok told is ∙ ap (λ a. take_opening (g.H.PathHash.hash_of a.hash) a.own (has a.seen) (has c.args.context.now) told) c.asker.view_is))
    c.go_on.ensures.ok
