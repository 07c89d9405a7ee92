use Rattle.std.proofs.Common.{Vec, refl, sym, ap, ◌∙◌, map}
use Rattle.delta_ops.specs.LiveMap.{live_state}
use Rattle.live_map.specs.Live.{LiveValue}
use Rattle.replica_model.specs.Replica.{next_session, opens}
use Rattle.replica_core.specs.Meaning.{ReplicaValue, open_of, meaning}
use Rattle.replica_core.proofs.Changing.{StaysButOpened}
use Rattle.replica_core.proofs.Growth.{same_grown}
use Rattle.replica_core.proofs.Meant.{of_parts, meaning_by, on_err}
use Rattle.replica_core.proofs.Opens.{front_again, opened_meaning, opened_is}
use Rattle.replica_core.proofs.replica.Replica.open.Goals as goal

pub returns-in_err-reserve-clause-unchanged : goal.returns-in_err-reserve-clause-unchanged
returns-in_err-reserve-clause-unchanged g c =
    let old = of_parts c.self.inside.name c.self.inside.live c.self.inside.group
    c.self.inside.opened c.self.inside.sessions.items c.self.inside.answerer in
    let mid = of_parts c.self.inside.name c.seal.new.self c.self.inside.group c.self.inside.opened c.reserve.new.self.items c.self.inside.answerer in
    let same = meaning_by mid (meaning old) refl (ap (λ (l : LiveValue _ _). live_state l.0) c.seal.ensures.same) refl refl
    (ap (map open_of) c.reserve.ensures.items) refl in
    on_err c.from_residual-in_err-reserve.result (rw (← c.self.view_is) same)

pub returns-in_err-hello-clause-unchanged : goal.returns-in_err-hello-clause-unchanged
returns-in_err-hello-clause-unchanged g c =
    let old = of_parts c.self.inside.name c.self.inside.live c.self.inside.group
    c.self.inside.opened c.self.inside.sessions.items c.self.inside.answerer in
    let new = of_parts c.self.inside.name c.seal.new.self c.self.inside.group c.self.inside.opened c.begin.new.sessions.items c.self.inside.answerer in
    let same = meaning_by new (meaning old) refl (ap (λ (l : LiveValue _ _). live_state l.0) c.seal.ensures.same) refl refl
    (ap (map open_of) (ap (λ (v : Vec _ _). v.items) c.in_err-hello.ensures.unchanged ∙ c.reserve.ensures.items)) refl in
    on_err c.from_residual-in_err-hello.result (rw (← c.self.view_is) same)

-- where the hello is not posted the sessions are those that were there before
pub invariant_of-self-in-Err : goal.invariant_of-self-in-Err
invariant_of-self-in-Err g c =
    let old = of_parts c.self.inside.name c.self.inside.live c.self.inside.group
    c.self.inside.opened c.self.inside.sessions.items c.self.inside.answerer in
    let new = of_parts c.self.inside.name c.seal.new.self c.self.inside.group c.self.inside.opened c.truncate.new.self.items c.self.inside.answerer in
    let as_before = front_again c.reserve.new.self.items c.begin.new.sessions.items c.truncate.new.self.items _ c.in_ok-hello.ensures.session
    (c.len-others.ensures ∙ c.reserve.new.self.ok.0) c.truncate.ensures.items ∙ c.reserve.ensures.items in
    same_grown g.H.PathHash.hash_of old new c.self.invariant refl refl as_before refl (ap (λ (l : LiveValue _ _). l.0) c.seal.ensures.same)

pub returns-in-Err-clause-unchanged : goal.returns-in-Err-clause-unchanged
returns-in-Err-clause-unchanged g c =
    let old = of_parts c.self.inside.name c.self.inside.live c.self.inside.group
    c.self.inside.opened c.self.inside.sessions.items c.self.inside.answerer in
    let new = of_parts c.self.inside.name c.seal.new.self c.self.inside.group c.self.inside.opened c.truncate.new.self.items c.self.inside.answerer in
    let as_before = front_again c.reserve.new.self.items c.begin.new.sessions.items c.truncate.new.self.items _ c.in_ok-hello.ensures.session
    (c.len-others.ensures ∙ c.reserve.new.self.ok.0) c.truncate.ensures.items ∙ c.reserve.ensures.items in
    rw (← c.self.view_is) (meaning_by new (meaning old) refl (ap (λ (l : LiveValue _ _). live_state l.0) c.seal.ensures.same) refl refl
    (ap (map open_of) as_before) refl)

pub invariant_of-self-2 : goal.invariant_of-self-2
invariant_of-self-2 g c =
    let old = of_parts c.self.inside.name c.self.inside.live c.self.inside.group
    c.self.inside.opened c.self.inside.sessions.items c.self.inside.answerer in
    let mid = of_parts c.self.inside.name c.seal.new.self c.self.inside.group c.self.inside.opened c.reserve.new.self.items c.self.inside.answerer in
    let new = of_parts c.self.inside.name c.seal.new.self c.self.inside.group
    c.number-self-inside.result c.begin.new.sessions.items c.self.inside.answerer in
    let next = c.requires ∙ ap (λ (r : ReplicaValue _). next_session (meaning r) c.args.session.answerer) (sym c.self.view_is) in
    let rest : StaysButOpened mid new = record { name = refl; live = refl; group = refl; kept = refl } in
    let is = same_grown g.H.PathHash.hash_of old mid c.self.invariant refl refl c.reserve.ensures.items refl
    (ap (λ (l : LiveValue _ _). l.0) c.seal.ensures.same) in
    opened_is mid new _ c.args.session next refl c.in_ok-hello.ensures.session rest c.number-self-inside.ensures.value g.H.PathHash.hash_of is
    c.in_ok-hello.ensures.map

pub returns-clause-ok : goal.returns-clause-ok
returns-clause-ok g c =
    let old = of_parts c.self.inside.name c.self.inside.live c.self.inside.group
    c.self.inside.opened c.self.inside.sessions.items c.self.inside.answerer in
    let mid = of_parts c.self.inside.name c.seal.new.self c.self.inside.group c.self.inside.opened c.reserve.new.self.items c.self.inside.answerer in
    let same = meaning_by mid (meaning old) refl (ap (λ (l : LiveValue _ _). live_state l.0) c.seal.ensures.same) refl refl
    (ap (map open_of) c.reserve.ensures.items) refl in
    let new = of_parts c.self.inside.name c.seal.new.self c.self.inside.group
    c.number-self-inside.result c.begin.new.sessions.items c.self.inside.answerer in
    let next = c.requires ∙ ap (λ (r : ReplicaValue _). next_session (meaning r) c.args.session.answerer) (sym c.self.view_is) in
    let rest : StaysButOpened mid new = record { name = refl; live = refl; group = refl; kept = refl } in
    rw (← c.self.view_is) (opened_meaning mid new _ c.args.session next refl c.in_ok-hello.ensures.session rest c.number-self-inside.ensures.value
    ∙ (λ i. opens (same i) c.args.session.answerer (c.seal.ensures.same i).0.0.1))
