use Rattle.std.proofs.Common.{refl, sym}
use Rattle.delta_ops.proofs.Groups.{known_front}
use Rattle.replica_core.specs.Carrying.{letter_of}
use Rattle.replica_core.proofs.Cuts.{nothing_cut, oldest_cut, cut_within, cut_most}
use Rattle.replica_core.proofs.Meant.{of_parts}
use Rattle.replica_core.proofs.replica.Replica.flush_at_most.Goals as goal

pub returns-in_default-clause-ok : goal.returns-in_default-clause-ok
returns-in_default-clause-ok g c = nothing_cut c.args.self.now

pub returns-in_default-clause-none : goal.returns-in_default-clause-none
returns-in_default-clause-none g c =
    (rw (sym c.self.view_is) (rw c.in_default.is at c.first_known.ensures.none), record { same = refl; waiting = refl; hash = refl })

pub returns-clause-ok : goal.returns-clause-ok
returns-clause-ok g c =
    let first = rw c.in-Some.is at c.first_known.ensures.some in
    let old = of_parts c.self.inside.name c.self.inside.live c.self.inside.group
    c.self.inside.opened c.self.inside.sessions.items c.self.inside.answerer in
    let new = of_parts c.self.inside.name c.self.inside.live c.cut.new.self
    c.self.inside.opened c.self.inside.sessions.items c.self.inside.answerer in
    rw (← c.self.view_is) (oldest_cut old new c.in_ok-letter.number c.cut.ensures (letter_of c.in_ok-letter.letter) c.in_ok-letter.ensures.ok
    (λ none. first.3 (λ d. known_front c.self.inside.group c.in-Some.first c.in_ok-letter.number c.in_ok-letter.ensures.behind.0 d (none d)))
    refl refl refl refl refl)

pub returns-clause-some : goal.returns-clause-some
returns-clause-some g c =
    let first = rw c.in-Some.is at c.first_known.ensures.some in
    let old = of_parts c.self.inside.name c.self.inside.live c.self.inside.group
    c.self.inside.opened c.self.inside.sessions.items c.self.inside.answerer in
    let new = of_parts c.self.inside.name c.self.inside.live c.cut.new.self
    c.self.inside.opened c.self.inside.sessions.items c.self.inside.answerer in
    rw (← c.self.view_is) (cut_within old new c.in_ok-letter.number c.cut.ensures c.in-Some.first c.args.most c.in_ok-letter.letter.bytes.items
    c.in_ok-letter.ensures.within first.0 first.2)

pub returns-clause-most : goal.returns-clause-most
returns-clause-most g c =
    let old = of_parts c.self.inside.name c.self.inside.live c.self.inside.group
    c.self.inside.opened c.self.inside.sessions.items c.self.inside.answerer in
    let new = of_parts c.self.inside.name c.self.inside.live c.cut.new.self
    c.self.inside.opened c.self.inside.sessions.items c.self.inside.answerer in
    rw (← c.self.view_is) (cut_most old new c.in_ok-letter.number c.cut.ensures c.args.most c.in_ok-letter.ensures.most)
