use Rattle.std.proofs.Common.{◌<◌, ◌+◌, ◌^◌, ap, length, arith, rules}
use Rattle.replica_core.specs.Meaning.{ReplicaValue}
use Rattle.replica_core.proofs.Asks.{ask_spent, ask_not_refused}
use Rattle.replica_core.proofs.replica.Replica.ask_refusal.Goals as goal

pub returns-then-self : goal.returns-then-self
returns-then-self g c peer =
    let few = c.if-len-ge-LIMIT.false in
    let count = c.len.ensures in
    let items = c.self.inside.sessions.ok.0 in
    let same = ap (λ (r : ReplicaValue _). length r.sessions) c.self.view_is in
    let most = c.if-self.true in
    let opened = ap (λ (r : ReplicaValue _). r.opened) c.self.view_is in
    ask_spent c.args.self.now peer (omega (arith, few, count, items, same)) (omega (arith, most, opened))

pub returns : goal.returns
returns g c peer =
    let few = c.if-len-ge-LIMIT.false in
    let count = c.len.ensures in
    let items = c.self.inside.sessions.ok.0 in
    let same = ap (λ (r : ReplicaValue _). length r.sessions) c.self.view_is in
    let left : c.args.self.now.opened + 1 < 2 ^ 64 = search rules in
    ask_not_refused c.args.self.now peer (omega (arith, few, count, items, same)) left
