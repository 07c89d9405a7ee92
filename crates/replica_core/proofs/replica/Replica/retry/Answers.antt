use Rattle.std.proofs.Common.{refl, ap, ◌∙◌, arith}
use Rattle.std.proofs.lemmas.Option.{slice_get_within, get_or_from_slice_get}
use Rattle.sync_protocol.specs.Asking.{AskerValue, stage_with}
use Rattle.sync_protocol.specs.Turning.{again}
use Rattle.replica_core.specs.declared.outcome.Outcome.TheVariants as told
use Rattle.replica_core.proofs.Asks.{retry_missed, retry_found, told_by}
use Rattle.replica_core.proofs.Meant.{of_parts}
use Rattle.replica_core.proofs.replica.Replica.retry.Goals as goal

pub returns-in_default-clause-ok : goal.returns-in_default-clause-ok
returns-in_default-clause-ok g c =
    let old = of_parts c.self.inside.name c.self.inside.live c.self.inside.group
    c.self.inside.opened c.self.inside.sessions.items c.self.inside.answerer in
    rw (← c.self.view_is) (told_by g.H.PathHash.hash_of old old _ c.silent.result.outcome told.Ignored c.silent.result.replies.items c.silent.ensures.outcome
    c.silent.ensures.replies
    (retry_missed g.H.PathHash.hash_of old c.args.number (rw c.deref.ensures.value at (c.in_default.ensures.none refl))))

pub index-requires : goal.index-requires
index-requires g c =
    let found = c.in-Some.ensures.found in
    let within = slice_get_within c.deref.result.now c.in-Some.place found.0 found.1.0 in omega (arith, within, c.deref.ensures.len)

pub returns-clause-ok : goal.returns-clause-ok
returns-clause-ok g c =
    let old = of_parts c.self.inside.name c.self.inside.live c.self.inside.group
    c.self.inside.opened c.self.inside.sessions.items c.self.inside.answerer in
    let found = rw c.deref.ensures.value at c.in-Some.ensures.found in
    let here = c.index.ensures ∙ get_or_from_slice_get c.self.inside.sessions.items c.in-Some.place found.0 c.index.result.now found.1.0 in
    rw (← c.self.view_is) (retry_found g.H.PathHash.hash_of old c.args.number c.in-Some.place found.0 found.1 c.in_ok-replies.replies.items c.self.invariant
    (c.in_ok-replies.ensures.ok ∙ ap (λ (a : AskerValue _). again a.session (stage_with a.own a.seen a.stage)) here))
