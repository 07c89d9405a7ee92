use Rattle.std.proofs.Common.{refl, ap, length, arith}
use Rattle.wire_form.specs.Session.{SessionValue}
use Rattle.replica_core.specs.Meaning.{ReplicaValue}
use Rattle.replica_core.proofs.Asks.{spent_refused, asked_stepped, ask_without_memory}
use Rattle.replica_core.proofs.replica.Replica.ask_to.Goals as goal

pub returns-in_default-clause-refused : goal.returns-in_default-clause-refused
returns-in_default-clause-refused g c =
    let few = c.if-len-ge-LIMIT.false in
    let count = c.len.ensures in
    let items = c.self.inside.sessions.ok.0 in
    let same = ap (λ (r : ReplicaValue _). length r.sessions) c.self.view_is in
    spent_refused c.args.self.now c.args.peer (omega (arith, few, count, items, same)) (c.in_default.ensures.spent refl)

pub returns-in-Ok-clause-ok : goal.returns-in-Ok-clause-ok
returns-in-Ok-clause-ok g c =
    let few = c.if-len-ge-LIMIT.false in
    let count = c.len.ensures in
    let items = c.self.inside.sessions.ok.0 in
    let same = ap (λ (r : ReplicaValue _). length r.sessions) c.self.view_is in
    rw c.number.ensures.value (asked_stepped g.H.PathHash.hash_of c.args.self.now c.open.new.self c.args.peer c.in-Some.session c.in-Some.ensures.next _
    c.in-Some.ensures.left
    (omega (arith, few, count, items, same)) c.in-Ok.ensures.map c.in-Ok.ensures.ok c.in-Ok.ensures.hello c.in-Ok.ensures.waiting c.in-Ok.ensures.hash)

pub returns-in-Err-clause-refused : goal.returns-in-Err-clause-refused
returns-in-Err-clause-refused g c =
    let few = c.if-len-ge-LIMIT.false in
    let count = c.len.ensures in
    let items = c.self.inside.sessions.ok.0 in
    let same = ap (λ (r : ReplicaValue _). length r.sessions) c.self.view_is in
    let number = ap (λ (s : SessionValue). s.number) c.in-Some.ensures.next in
    ask_without_memory c.args.self.now c.args.peer c.in-Err.refusal c.in-Err.ensures.refused (omega (arith, few, count, items, same))
    (omega (arith, c.in-Some.ensures.left, number))
