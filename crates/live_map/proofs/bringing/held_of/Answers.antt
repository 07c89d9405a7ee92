use Rattle.std.proofs.Common.{◌≡◌, subst}
use Rattle.std.proofs.lemmas.Result.{IfOk-weaker}
use Rattle.dot_store.specs.Stores.{at_stores}
use Rattle.dots.specs.Bytes.{bytes_cmp}
use Rattle.trie_map.specs.Keyed.{at_keys}
use Rattle.live_map.specs.Bringing.{IsCopyAt}
use Rattle.live_map.specs.Closing.{stores_of}
use Rattle.live_map.proofs.bringing.held_of.Goals as goal

pub returns-clause-ok : goal.returns-clause-ok
returns-clause-ok g c =
    let at = g.S.DotStore.at in
    let same : stores_of c.frozen.result.now ≡ c.args.map.now = λ i. (c.frozen.ensures.hash i, c.frozen.ensures.map i) in
    IfOk-weaker c.held_at.result _ _
    (λ held is. subst (λ m. IsCopyAt (at_keys at m) c.args.keys.now.keys (at_stores at bytes_cmp held)) same is) c.held_at.ensures.ok
