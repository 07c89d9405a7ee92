use Rattle.std.proofs.Common.{[], ◌∷◌, sym, ◌∙◌, subst}
use Rattle.ordered_list.proofs.Places.{Ascends, ascends_tail, less_from_greater}
use Rattle.ordered_list.proofs.Merged.{turn_mine, turn_yours, turn_both, below_other, nil_from_length}
use Rattle.ordered_list.proofs.merge.Merge.next.Goals as goal

pub invariant_of-self : goal.invariant_of-self
invariant_of-self g c =
    let parts = c.in-None-Some.ensures'.cases.0 in
    let s = c.self.invariant.1 in
    (c.self.invariant.0, ascends_tail g.K.Ord.cmp c.in-None-Some.y.now c.in-None-Some.yours.now (subst (Ascends g.K.Ord.cmp) parts s))

pub invariant_of-self-in-Some-None : goal.invariant_of-self-in-Some-None
invariant_of-self-in-Some-None g c =
    let parts = c.in-Some-None.ensures.cases.0 in
    let s = c.self.invariant.0 in
    (ascends_tail g.K.Ord.cmp c.in-Some-None.x.now c.in-Some-None.mine.now (subst (Ascends g.K.Ord.cmp) parts s), c.self.invariant.1)

pub invariant_of-self-in-Less : goal.invariant_of-self-in-Less
invariant_of-self-in-Less g c =
    let parts = c.in-Some-Some.ensures.cases.0 in
    let s = c.self.invariant.0 in
    (ascends_tail g.K.Ord.cmp c.in-Some-Some.x.now c.in-Some-Some.mine.now (subst (Ascends g.K.Ord.cmp) parts s), c.self.invariant.1)

pub invariant_of-self-in-Equal : goal.invariant_of-self-in-Equal
invariant_of-self-in-Equal g c = (
  ascends_tail g.K.Ord.cmp c.in-Some-Some.x.now c.in-Some-Some.mine.now (subst (Ascends g.K.Ord.cmp) c.in-Some-Some.ensures.cases.0 c.self.invariant.0),
  ascends_tail g.K.Ord.cmp c.in-Some-Some.y.now c.in-Some-Some.yours.now (subst (Ascends g.K.Ord.cmp) c.in-Some-Some.ensures'.cases.0 c.self.invariant.1),
)

pub invariant_of-self-in-Greater : goal.invariant_of-self-in-Greater
invariant_of-self-in-Greater g c =
    let parts = c.in-Some-Some.ensures'.cases.0 in
    let s = c.self.invariant.1 in
    (c.self.invariant.0, ascends_tail g.K.Ord.cmp c.in-Some-Some.y.now c.in-Some-Some.yours.now (subst (Ascends g.K.Ord.cmp) parts s))

pub returns-in-None-Some-clause-turn : goal.returns-in-None-Some-clause-turn
returns-in-None-Some-clause-turn g c =
    let cmp = g.K.Ord.cmp in
    let none = nil_from_length c.self.inside.mine.now c.in-None-Some.ensures.cases in
    rw (← c.self.view_is, c.in-None-Some.ensures'.cases.0, none)
    (turn_yours cmp g.met.K.Ord.total c.in-None-Some.y.now c.in-None-Some.yours.now []
    (subst (Ascends cmp) c.in-None-Some.ensures'.cases.0 c.self.invariant.1) tt)

pub returns-in-Some-None-clause-turn : goal.returns-in-Some-None-clause-turn
returns-in-Some-None-clause-turn g c =
    let cmp = g.K.Ord.cmp in
    let none = nil_from_length c.self.inside.yours.now c.in-Some-None.ensures'.cases in
    rw (← c.self.view_is, c.in-Some-None.ensures.cases.0, none)
    (turn_mine cmp g.met.K.Ord.total c.in-Some-None.x.now c.in-Some-None.mine.now [] (subst (Ascends cmp) c.in-Some-None.ensures.cases.0 c.self.invariant.0) tt)

pub returns-in-Less-clause-turn : goal.returns-in-Less-clause-turn
returns-in-Less-clause-turn g c =
    let cmp = g.K.Ord.cmp in
    let x = c.in-Some-Some.x.now in
    let y = c.in-Some-Some.y.now in
    let mine = c.in-Some-Some.mine.now in
    let yours = c.in-Some-Some.yours.now in
    rw (← c.self.view_is, c.in-Some-Some.ensures.cases.0, c.in-Some-Some.ensures'.cases.0)
    (turn_mine cmp g.met.K.Ord.total x mine (y ∷ yours) (subst (Ascends cmp) c.in-Some-Some.ensures.cases.0 c.self.invariant.0)
    (below_other cmp g.met.K.Ord.total x.0 y yours (sym c.cmp.ensures ∙ c.in-Less.is) (subst (Ascends cmp) c.in-Some-Some.ensures'.cases.0 c.self.invariant.1)))

pub returns-in-Equal-clause-turn : goal.returns-in-Equal-clause-turn
returns-in-Equal-clause-turn g c =
    let cmp = g.K.Ord.cmp in
    rw (← c.self.view_is, c.in-Some-Some.ensures.cases.0, c.in-Some-Some.ensures'.cases.0)
    (turn_both cmp g.met.K.Ord.total c.in-Some-Some.x.now c.in-Some-Some.y.now c.in-Some-Some.mine.now c.in-Some-Some.yours.now
    (subst (Ascends cmp) c.in-Some-Some.ensures.cases.0 c.self.invariant.0) (subst (Ascends cmp) c.in-Some-Some.ensures'.cases.0 c.self.invariant.1)
    (sym c.cmp.ensures ∙ c.in-Equal.is))

pub returns-in-Greater-clause-turn : goal.returns-in-Greater-clause-turn
returns-in-Greater-clause-turn g c =
    let cmp = g.K.Ord.cmp in
    let x = c.in-Some-Some.x.now in
    let y = c.in-Some-Some.y.now in
    let mine = c.in-Some-Some.mine.now in
    let yours = c.in-Some-Some.yours.now in
    rw (← c.self.view_is, c.in-Some-Some.ensures.cases.0, c.in-Some-Some.ensures'.cases.0)
    (turn_yours cmp g.met.K.Ord.total y yours (x ∷ mine) (subst (Ascends cmp) c.in-Some-Some.ensures'.cases.0 c.self.invariant.1)
    (below_other cmp g.met.K.Ord.total y.0 x mine (less_from_greater cmp g.met.K.Ord.total x.0 y.0 (sym c.cmp.ensures ∙ c.in-Greater.is))
    (subst (Ascends cmp) c.in-Some-Some.ensures.cases.0 c.self.invariant.0)))
