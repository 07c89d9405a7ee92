use Rattle.std.proofs.Common.{ap, sym, ◌∙◌, subst}
use Rattle.std.proofs.lemmas.Result.{IfOk-weaker}
use Rattle.causal_context.specs.Context.{has}
use Rattle.trie_map.specs.Keyed.{at_keys}
use Rattle.trie_map.specs.Joined.{AreJoined}
use Rattle.trie_map.proofs.Written.{map_joined}
use Rattle.trie_map.proofs.trie_map.TrieMapDotStore.join.Goals as goal

pub returns-clause-ok : goal.returns-clause-ok
returns-clause-ok g c =
    let at = g.S.DotStore.at in
    let Holds = AreJoined at g.S.DotStore.greater (at_keys at c.args.self.now) (has c.args.own.now) (at_keys at c.args.other.now) (has c.args.theirs.now) in
    IfOk-weaker c.finish.result _ _
    (λ both is. map_joined at g.S.DotStore.greater c.args.self.now c.args.other.now (has c.args.own.now) (has c.args.theirs.now) both
    (subst (λ m. Holds c.args.self.now.1 m.1 × Holds c.args.other.now.1 m.1) (sym is) c.in_default.ensures.ok))
    c.finish.ensures.ok

pub returns-clause-hash : goal.returns-clause-hash
returns-clause-hash g c =
    IfOk-weaker c.finish.result _ _ (λ both is. ap (λ m. m.0) is ∙ c.join_all.ensures.hash ∙ ap (λ m. m.0) c.in_ok-draft.ensures.ok) c.finish.ensures.ok
