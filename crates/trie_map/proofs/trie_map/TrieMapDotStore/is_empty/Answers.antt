use Rattle.std.proofs.Common.{◌≡◌, sym, ap, ◌∙◌, subst, eq-eqb, eqb-true}
use Rattle.std.specs.FinMap as finite
use Rattle.trie_map.specs.Keyed.{NoStoreIsEmpty, EachIsCanonical}
use Rattle.trie_map.proofs.Holding.{nothing_of_none, none_of_nothing}
use Rattle.trie_map.proofs.trie_map.TrieMapDotStore.is_empty.Goals as goal

pub returns-clause-nothing : goal.returns-clause-nothing
returns-clause-nothing g c =
    let at = g.S.DotStore.at in
    let map = c.args.self.now in
    let size : c.size.result ≡ finite.len map.1 = c.size.ensures ∙ ap (λ p. finite.len p.1) c.self.view_is in (
      λ t. nothing_of_none at map (sym size ∙ eqb-true c.size.result 0 t),
      λ h. eq-eqb c.size.result 0 (size ∙ none_of_nothing at map (subst (λ p. NoStoreIsEmpty at p.1) c.self.view_is c.self.invariant.0) h),
    )

pub returns-clause-canonical : goal.returns-clause-canonical
returns-clause-canonical g c = subst (λ p. NoStoreIsEmpty g.S.DotStore.at p.1 × EachIsCanonical g.S.DotStore.canonical p.1) c.self.view_is c.self.invariant
