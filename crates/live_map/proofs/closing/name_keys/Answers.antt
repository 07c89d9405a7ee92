use Rattle.std.proofs.Common.{◌≡◌, false, refl, sym, subst}
use Rattle.std.specs.Prelude.{IsTrue, IsSome}
use Rattle.std.proofs.lemmas.Map.Lookups.{exact_bytes}
use Rattle.dots.specs.Bytes.{bytes_cmp}
use Rattle.causal_context.specs.Context.{has}
use Rattle.dots.specs.Dot.{DotValue}
use Rattle.trie_map.specs.Keyed.{at_keys}
use Rattle.trie_map.proofs.Visits.{Among}
use Rattle.live_map.specs.Closing.{stores_of}
use Rattle.live_map.specs.Index.{names}
use Rattle.live_map.proofs.Members.{among_exact}
use Rattle.live_map.proofs.Passing.{passes_none, passes_more, passes_all}
use Rattle.live_map.proofs.closing.name_keys.Goals as goal

pub loop-key-init : goal.loop-key-init
loop-key-init g c = (
  passes_none c.into_iter-key-iterator.result c.into_iter-key-iterator.result
      (λ q. (place : _) (d : DotValue) → IsSome (at_keys g.S.DotStore.at (stores_of c.args.built.now) (q, place) d) → has c.args.known.now d ≡ false
      → IsTrue (names c.args.index.now d q)) refl,
  λ d q h. h,
)

pub loop-key-preserved : goal.loop-key-preserved
loop-key-preserved g c = (
  passes_more c.into_iter-key-iterator.result c.loop-key.key-iterator c.next.new.self c.in-Some.key.now
      (λ q. (place : _) (d : DotValue) → IsSome (at_keys g.S.DotStore.at (stores_of c.args.built.now) (q, place) d) → has c.args.known.now d ≡ false
      → IsTrue (names c.loop-key.index d q))
      (λ q. (place : _) (d : DotValue) → IsSome (at_keys g.S.DotStore.at (stores_of c.args.built.now) (q, place) d) → has c.args.known.now d ≡ false
      → IsTrue (names c.name_key.new.index d q))
      c.loop-key.invariant.0 c.in-Some.ensures.steps
      c.in_ok-name_key.ensures.there
      (λ q was place d h fresh. c.in_ok-name_key.ensures.kept d q (was place d h fresh)),
  λ d q h. c.in_ok-name_key.ensures.kept d q (c.loop-key.invariant.1 d q h),
)

pub returns-clause-there : goal.returns-clause-there
returns-clause-there g c = λ q h.
    passes_all c.into_iter-key-iterator.result c.loop-key.key-iterator
    (λ q. (place : _) (d : DotValue) → IsSome (at_keys g.S.DotStore.at (stores_of c.args.built.now) (q, place) d) → has c.args.known.now d ≡ false
    → IsTrue (names c.loop-key.index d q))
    c.loop-key.invariant.0 c.in-None.ensures.steps.0 q (subst (λ keys. Among keys q) (sym c.into_iter-key-iterator.ensures.into_iter_gives.0)
    (among_exact bytes_cmp exact_bytes c.args.keys.now.keys q h))
