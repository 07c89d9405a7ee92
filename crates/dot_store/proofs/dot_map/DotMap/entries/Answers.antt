use Rattle.std.proofs.Common.{◌≡◌, sym, ap, ◌∙◌, subst}
use Rattle.std.specs.Prelude.{IsSome}
use Rattle.std.specs.Map.{lookup, keys_of}
use Rattle.std.specs.BTreeMap.{is_at}
use Rattle.std.specs.Cmp.{eq_by_cmp_equiv}
use Rattle.std.proofs.lemmas.Map.Keys.{IsDistinct-from_sorted}
use Rattle.std.proofs.lemmas.Map.Views.{Contains-from_lookup, lookup-from_Contains}
use Rattle.dot_store.specs.Stores.{at_stores, NoKeyIsEmpty}
use Rattle.dot_store.proofs.Stores.{store_from_held, held_at_some}
use Rattle.ordered_list.proofs.Walked.{same_key}
use Rattle.dot_store.proofs.dot_map.DotMap.entries.Goals as goal

pub returns-clause-held : goal.returns-clause-held
unfolding at_stores
returns-clause-held g c = λ key store h place d.
    let es = c.entries.result.now in
    let all : es ≡ c.args.self.now = c.entries.ensures.all ∙ c.self.view_is in
    let found = lookup-from_Contains (eq_by_cmp_equiv g.met.K.Ord.total) key store es
    (IsDistinct-from_sorted g.K.Ord.cmp (keys_of es) c.entries.ensures.ordered) h in
    ap (λ l. at_stores g.S.DotStore.at g.K.Ord.cmp l (key, place) d) (sym all)
    ∙ held_at_some g.S.DotStore.at (lookup (is_at (g.K.Ord.cmp key)) es) store place d found

pub returns-clause-only : goal.returns-clause-only
unfolding at_stores
returns-clause-only g c = λ key place d h.
    let es = c.entries.result.now in
    let all : es ≡ c.args.self.now = c.entries.ensures.all ∙ c.self.view_is in
    let s = store_from_held g.S.DotStore.at (lookup (is_at (g.K.Ord.cmp key)) es) place d
    (subst (λ l. IsSome (at_stores g.S.DotStore.at g.K.Ord.cmp l (key, place) d)) (sym all) h) in
    (s.0, Contains-from_lookup (same_key g.K.Ord.cmp g.met.K.Kept.exact) key s.0 es s.1)

pub returns-clause-filled : goal.returns-clause-filled
returns-clause-filled g c = subst (NoKeyIsEmpty g.S.DotStore.at) (sym c.entries.ensures.all) c.self.invariant.0
