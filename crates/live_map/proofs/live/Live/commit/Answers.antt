use Rattle.std.proofs.Common.{sym, subst}
use Rattle.trie_map.specs.Keyed.{at_keys}
use Rattle.live_map.specs.Index.{IsIndexed}
use Rattle.live_map.proofs.live.Live.commit.Goals as goal

pub cut_all-requires-clause-indexed : goal.cut_all-requires-clause-indexed
cut_all-requires-clause-indexed g c =
    let at = g.S.DotStore.at in
    subst (λ live. IsIndexed (at_keys at c.next.inside.store) live.1) (sym c.self.view_is)
    (subst (λ next. IsIndexed (at_keys at next.0) c.args.self.now.1) (sym c.next.view_is) c.requires)
