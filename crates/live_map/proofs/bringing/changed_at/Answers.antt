use Rattle.std.proofs.Common.{refl, sym, subst, inl, inr, ⊎_elim}
use Rattle.std.specs.Prelude.{IsTrue, ◌⊎◌}
use Rattle.std.proofs.lemmas.Map.Lookups.{exact_bytes}
use Rattle.causal_context.specs.Context.{has}
use Rattle.dots.specs.Bytes.{bytes_cmp}
use Rattle.trie_map.specs.Keyed.{at_keys}
use Rattle.trie_map.proofs.Visits.{Among}
use Rattle.live_map.specs.Bringing.{StaysAt}
use Rattle.live_map.specs.Closing.{stores_of}
use Rattle.live_map.specs.Index.{has_key}
use Rattle.live_map.proofs.Brought.{changes_fewer}
use Rattle.live_map.proofs.Members.{among_exact}
use Rattle.live_map.proofs.Passing.{passes_none, passes_more, passes_all}
use Rattle.live_map.proofs.bringing.changed_at.Goals as goal

pub loop-key-init : goal.loop-key-init
loop-key-init g c =
    passes_none c.into_iter-key-iterator.result c.into_iter-key-iterator.result
    (λ q. IsTrue (has_key c.new-changed.result.keys q)
    ⊎ StaysAt g.S.DotStore.greater (at_keys g.S.DotStore.at c.args.mine.now) (has c.args.own.now) (at_keys g.S.DotStore.at (stores_of c.args.built.now))
    (has c.args.theirs.now) q) refl

pub loop-key-preserved : goal.loop-key-preserved
loop-key-preserved g c =
    let at = g.S.DotStore.at in
    let Stays = StaysAt g.S.DotStore.greater (at_keys at c.args.mine.now) (has c.args.own.now) (at_keys at (stores_of c.args.built.now))
    (has c.args.theirs.now) in
    passes_more c.into_iter-key-iterator.result c.loop-key.key-iterator c.next.new.self c.in-Some.key.now
    (λ q. IsTrue (has_key c.loop-key.changed.keys q) ⊎ Stays q) (λ q. IsTrue (has_key c.add_changed.new.changed.keys q) ⊎ Stays q)
    c.loop-key.invariant c.in-Some.ensures.steps c.in_ok-add_changed.ensures.there
    (λ q was. ⊎_elim (λ there. inl (c.in_ok-add_changed.ensures.kept q there)) (λ stays. inr stays) was)

pub returns-clause-ok : goal.returns-clause-ok
returns-clause-ok g c =
    let at = g.S.DotStore.at in
    let Stays = StaysAt g.S.DotStore.greater (at_keys at c.args.mine.now) (has c.args.own.now) (at_keys at (stores_of c.args.built.now))
    (has c.args.theirs.now) in
    changes_fewer g.S.DotStore.greater (at_keys at c.args.mine.now) (at_keys at (stores_of c.args.built.now)) (has c.args.own.now) (has c.args.theirs.now)
    c.args.keys.now.keys c.loop-key.changed.keys c.requires
    (λ q h. passes_all c.into_iter-key-iterator.result c.loop-key.key-iterator (λ q. IsTrue (has_key c.loop-key.changed.keys q) ⊎ Stays q)
    c.loop-key.invariant c.in-None.ensures.steps.0 q (subst (λ keys. Among keys q) (sym c.into_iter-key-iterator.ensures.into_iter_gives.0)
    (among_exact bytes_cmp exact_bytes c.args.keys.now.keys q h)))
