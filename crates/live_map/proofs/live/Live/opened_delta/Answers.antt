use Rattle.std.proofs.Common.{sym, subst}
use Rattle.causal_context.specs.Context.{has}
use Rattle.trie_map.specs.Keyed.{at_keys}
use Rattle.live_map.specs.Closing.{ChangesOnlyAt, stores_of}
use Rattle.live_map.proofs.live.Live.opened_delta.Goals as goal

pub brought-delta-requires-clause-changes : goal.brought-delta-requires-clause-changes
brought-delta-requires-clause-changes g c =
    let at = g.S.DotStore.at in
    subst (λ live. ChangesOnlyAt g.S.DotStore.greater (at_keys at live.0.0) (has live.0.1) (at_keys at (stores_of c.args.built.now)) (has c.args.context.now)
    c.in_ok-keys.keys.keys) (sym c.self.view_is) c.in_ok-keys.ensures.ok
