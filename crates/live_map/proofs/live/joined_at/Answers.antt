use Rattle.std.proofs.Common.{sym, subst}
use Rattle.std.proofs.lemmas.Result.{IfOk-weaker}
use Rattle.causal_context.specs.Context.{has}
use Rattle.dot_store.specs.Stores.{at_stores}
use Rattle.dots.specs.Bytes.{bytes_cmp}
use Rattle.trie_map.specs.Keyed.{at_keys}
use Rattle.trie_map.specs.Joined.{IsJoinedAt, IsEitherAt}
use Rattle.live_map.proofs.Changing.{touched_joined}
use Rattle.live_map.proofs.live.joined_at.Goals as goal

pub returns-clause-ok : goal.returns-clause-ok
returns-clause-ok g c =
    let at = g.S.DotStore.at in
    let greater = g.S.DotStore.greater in
    let mine = c.args.mine.now in
    let own = has c.args.own.now in
    let yours = at_stores at bytes_cmp c.args.delta.now.0 in
    let theirs = has c.args.delta.now.1 in
    let new = c.join_at_keys.new.draft.1 in
    let either : (q : _) → IsEitherAt at greater (at_keys at mine) own yours theirs new q = λ q. subst (λ stores. IsEitherAt at greater (at_keys at mine) own (at_stores at bytes_cmp stores) theirs new q) c.store.ensures.value
    (subst (λ context. IsEitherAt at greater (at_keys at mine) own (at_stores at bytes_cmp c.store.result.now) (has context) new q) c.context.ensures.value
    (c.in_default.ensures.either q)) in
    let there : (q : _) (h : _) → IsJoinedAt at greater (at_keys at mine) own yours theirs new q = λ q h. subst (λ stores. IsJoinedAt at greater (at_keys at mine) own (at_stores at bytes_cmp stores) theirs new q) c.store.ensures.value
    (subst (λ context. IsJoinedAt at greater (at_keys at mine) own (at_stores at bytes_cmp c.store.result.now) (has context) new q) c.context.ensures.value
    (c.in_default.ensures.there q h)) in
    IfOk-weaker c.finish.result _ _
    (λ both is. touched_joined at greater mine own yours theirs c.args.keys.now.keys c.requires both
    (λ q. subst (λ m. IsEitherAt at greater (at_keys at mine) own yours theirs m.1 q) (sym is) (either q))
    (λ q h. subst (λ m. IsJoinedAt at greater (at_keys at mine) own yours theirs m.1 q) (sym is) (there q h)))
    c.finish.ensures.ok
