use Rattle.std.proofs.Common.{sym, subst}
use Rattle.std.proofs.lemmas.Result.{IfOk-weaker}
use Rattle.causal_context.specs.Context.{has}
use Rattle.trie_map.specs.Keyed.{at_keys}
use Rattle.trie_map.specs.Joined.{IsJoinedAt, IsEitherAt}
use Rattle.live_map.specs.Closing.{stores_of}
use Rattle.live_map.proofs.Changing.{only_joined}
use Rattle.live_map.proofs.closing.closed_at.Goals as goal

pub returns-clause-ok : goal.returns-clause-ok
returns-clause-ok g c =
    let at = g.S.DotStore.at in
    let greater = g.S.DotStore.greater in
    let mine = c.args.mine.now in
    let own = has c.args.own.now in
    let yours = at_keys at (stores_of c.args.built.now) in
    let theirs = has c.args.theirs.now in
    IfOk-weaker c.finish.result _ _
    (λ both is. only_joined at greater mine own yours theirs c.args.keys.now.keys c.requires both
    (λ q. subst (λ m. IsEitherAt at greater (at_keys at mine) own yours theirs m.1 q) (sym is) (c.in_default.ensures.either q))
    (λ q h. subst (λ m. IsJoinedAt at greater (at_keys at mine) own yours theirs m.1 q) (sym is) (c.in_default.ensures.there q h)))
    c.finish.ensures.ok
