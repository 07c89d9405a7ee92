use Rattle.std.proofs.Common.{◌≡◌, ◌∙◌, [], length, ap, sym, subst, eqb-true}
use Rattle.std.specs.Prelude.{Contains, IsTrue, IfSome}
use Rattle.std.specs.List.{All}
use Rattle.std.specs.FinMap as finite
use Rattle.std.specs.Borrow.{Bor}
use Rattle.causal_context.specs.Context.{has, is_known}
use Rattle.dot_store.specs.Stores.{at_stores}
use Rattle.dots.specs.Bytes.{bytes_cmp}
use Rattle.trie_map.specs.Here.{JoinsHere}
use Rattle.live_map.proofs.Changing.{held_either}
use Rattle.live_map.proofs.Members.{none_of}
use Rattle.dot_store.specs.Store.{HasEachKnown}
use Rattle.trie_map.specs.Here.{HoldsAny}
use Rattle.live_map.proofs.OneKey.{fits_in, known_among, none_long}
use Rattle.live_map.proofs.one_key.join_in.Goals.{then-not-branch+in_ok-put_first, else-not-branch}
use Rattle.live_map.proofs.one_key.join_in.Goals as goal

pub join_in-there-requires : goal.join_in-there-requires
join_in-there-requires g c =
    let at = g.S.DotStore.at in
    let own = has c.args.own.now in
    let theirs = c.context-theirs.result.now in
    let found = c.in_ok-found.found.items in
    let none : theirs.vector ≡ [] = sym c.vector.ensures.rest ∙ none_long c.vector.result.now
    (eqb-true (length c.vector.result.now) 0 (sym c.is_empty.ensures ∙ c.if-not-is_empty.false)) in
    let all = subst (All (λ d. IsTrue (own d) → Contains found d)) c.cloud.ensures.rest c.in_ok-found.ensures.ok in
    let among = known_among own theirs found none (λ d. c.vector.ensures.has d ∙ ap (λ v. is_known v theirs.cloud d) c.vector.ensures.rest) all in
    subst (λ dots. IfSome (finite.get c.args.mine.now.1 c.args.key.now) (λ s. HasEachKnown (at s) (has theirs) dots
    × HoldsAny at g.S.DotStore.greater s own c.unwrap_or-yours.result.now (has theirs))) (sym c.deref.ensures.value)
    (fits_in at g.S.DotStore.greater c.args.mine.now own (has theirs) c.args.key.now c.unwrap_or-yours.result.now found c.args.dot c.requires.inside among
    c.requires.fresh (c.contains.ensures.found c.if-not-contains.false))

pub put_first-requires : goal.put_first-requires
put_first-requires g c =
    let key = c.args.key.now in
    let absent = c.if-not-branch.true in
    ap (λ m. finite.get m.1 key) (c.in_ok-there.ensures.absent absent) ∙ none_of (finite.get c.args.mine.now.1 key) (sym c.in_ok-there.ensures.there ∙ absent)

pub returns-clause-ok : goal.returns-clause-ok
returns-clause-ok g c = λ t.
    let at = g.S.DotStore.at in
    let greater = g.S.DotStore.greater in
    let key = c.args.key.now in
    let own = has c.args.own.now in
    let y = c.unwrap_or-yours.result.now in
    let theirs = c.context-theirs.result.now in
    let old = c.args.mine.now.1 in
    let holds : (place : _) (d : _) → at_stores at bytes_cmp c.args.delta.now.0 (key, place) d ≡ at y place d = λ place d.
    ap (λ stores. at_stores at bytes_cmp stores (key, place) d) (sym c.store.ensures.value) ∙ c.get.ensures.held place d
    ∙ held_either at c.get.result _ c.empty-empty.ensures place d
    ∙ ap (λ (b : Bor g.row.S.Denot). at b.now place d) (sym c.unwrap_or-yours.ensures) in
    let joins : JoinsHere at greater old c.if-not-branch.mine.1 key own y (has theirs) = elim c.if-not-branch.branch [
      | then-not-branch+in_ok-put_first w ↦
          subst (λ m. JoinsHere at greater old m.1 key own y (has theirs)) (sym w.mine-is)
          (subst (λ m. JoinsHere at greater m.1 w.put_first.new.mine.1 key own y (has theirs)) (c.in_ok-there.ensures.absent w.if-not-branch.true)
          w.in_ok-put_first.ensures.ok)
      | else-not-branch w ↦ subst (λ m. JoinsHere at greater old m.1 key own y (has theirs)) (sym w.mine-is) (c.in_ok-there.ensures.ok w.if-not-branch.false)
    ] in
    record {
      store = y;
      holds = holds;
      joins = subst (λ context. JoinsHere at greater old c.if-not-branch.mine.1 key own y (has context))
          c.context-theirs.ensures.value joins;
    }
