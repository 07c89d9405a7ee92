use Rattle.std.proofs.Common.{sym, subst}
use Rattle.std.specs.Prelude.{IsSome}
use Rattle.causal_join.specs.Causal.{state_of}
use Rattle.op_model.specs.State.{IsInside}
use Rattle.trie_map.specs.Keyed.{at_keys}
use Rattle.live_map.proofs.live.Live.copy.Goals as goal

pub invariant_of-result : goal.invariant_of-result
invariant_of-result g c =
    let at = at_keys g.S.DotStore.at {Hash = g.row.H.Denot} in
    let store = sym c.in-Ok-share.ensures.ok in (
      subst (λ s. IsInside (state_of at (s, c.in_ok-context.context))) store
          (subst (λ x. IsInside (state_of at (c.self.inside.store, x))) (sym c.in_ok-context.ensures.equal) c.self.invariant.0),
      λ key place dot h. c.in-Ok.ensures.ok dot key (c.self.invariant.1 key place dot (subst (λ s. IsSome (at s (key, place) dot)) c.in-Ok-share.ensures.ok h)),
    )
