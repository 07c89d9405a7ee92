use Rattle.std.proofs.Common.{ap, subst}
use Rattle.std.proofs.lemmas.Result.{IfOk-weaker}
use Rattle.causal_context.specs.Context.{has}
use Rattle.trie_map.specs.Keyed.{at_keys}
use Rattle.live_map.specs.Closing.{ChangesOnlyAt, stores_of}
use Rattle.live_map.proofs.Changing.{changes_only_more}
use Rattle.live_map.proofs.Unchanged.{opened_only}
use Rattle.live_map.proofs.live.Live.opened_keys.Goals as goal

pub returns-clause-ok : goal.returns-clause-ok
returns-clause-ok g c =
    let at = g.S.DotStore.at in
    let greater = g.S.DotStore.greater in
    let built = at_keys at (stores_of c.args.built.now) in
    let theirs = has c.args.context.now in
    let only = opened_only at greater c.self.inside.store (stores_of c.args.base.now) (stores_of c.args.built.now)
    c.self.inside.context c.args.seen.now c.args.context.now c.args.self.now.0 c.self.inside.index
    c.args.touched.now.map c.touch_since.new.keys (ap (λ live. live.0) c.self.view_is)
    c.in_default.ensures.ok c.self.invariant.1 c.requires.below c.requires.rest in
    IfOk-weaker c.key_set-keys.result _ _
    (λ set among. subst (λ live. ChangesOnlyAt greater (at_keys at live.0.0) (has live.0.1) built theirs set.keys) c.self.view_is
    (changes_only_more greater (at_keys at c.self.inside.store) (has c.self.inside.context) built theirs c.touch_since.new.keys set.keys among only))
    c.key_set-keys.ensures.ok
