use Rattle.std.proofs.Common.{refl, sym}
use Rattle.trie_map.proofs.Holding.{same_of_within, within_of_same}
use Rattle.trie_map.proofs.trie_map.TrieMapDotStore.same.Goals as goal

pub returns-then-is_within : goal.returns-then-is_within
returns-then-is_within g c =
    let at = g.S.DotStore.at in
    let mine = c.args.self.now in
    let yours = c.args.other.now in (
      λ t. same_of_within at mine yours (c.if-is_within.ensures.0 refl) (c.is_within-then-is_within.ensures.0 t),
      λ same. c.is_within-then-is_within.ensures.1 (within_of_same at yours mine (λ place d. sym (same place d))),
    )

pub returns-else-is_within : goal.returns-else-is_within
returns-else-is_within g c = (
  λ t. absurd (cc (c.if-is_within.false, t)),
  λ same. c.is_within.ensures.1 (within_of_same g.S.DotStore.at c.args.self.now c.args.other.now same),
)
