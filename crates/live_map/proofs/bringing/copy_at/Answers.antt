use Rattle.std.proofs.Common.{◌≡◌, refl, sym, subst}
use Rattle.std.proofs.lemmas.Map.Lookups.{exact_bytes}
use Rattle.dot_store.specs.Stores.{at_stores}
use Rattle.dots.specs.Bytes.{bytes_cmp}
use Rattle.trie_map.specs.Keyed.{at_keys}
use Rattle.trie_map.proofs.Visits.{Among}
use Rattle.live_map.specs.Closing.{stores_of}
use Rattle.live_map.proofs.Brought.{copied_kept, copied_only}
use Rattle.live_map.proofs.Members.{among_exact}
use Rattle.live_map.proofs.Passing.{passes_none, passes_more, passes_all}
use Rattle.live_map.proofs.bringing.copy_at.Goals as goal

pub loop-key-init : goal.loop-key-init
loop-key-init g c = (
  passes_none c.into_iter-key-iterator.result c.into_iter-key-iterator.result
      (λ q. (place : _) (d : _) → at_stores g.S.DotStore.at bytes_cmp c.args.held.now (q, place) d
      ≡ at_keys g.S.DotStore.at (stores_of c.args.trie.now) (q, place) d) refl,
  λ only. only,
)

pub loop-key-preserved : goal.loop-key-preserved
loop-key-preserved g c =
    let at = g.S.DotStore.at in
    let trie = at_keys at (stores_of c.args.trie.now) in
    let old = at_stores at bytes_cmp c.loop-key.held in
    let new = at_stores at bytes_cmp c.copy_one.new.held in
    let key = c.in-Some.key.now in
    let here = c.in_ok-copy_one.ensures.here in
    let apart = c.in_ok-copy_one.ensures.apart in (
      passes_more c.into_iter-key-iterator.result c.loop-key.key-iterator c.next.new.self key
          (λ q. (place : _) (d : _) → old (q, place) d ≡ trie (q, place) d) (λ q. (place : _) (d : _) → new (q, place) d ≡ trie (q, place) d)
          c.loop-key.invariant.0 c.in-Some.ensures.steps here (copied_kept trie old new key here apart),
      λ only. copied_only trie old new key here apart (c.loop-key.invariant.1 only),
    )

pub returns-clause-here : goal.returns-clause-here
returns-clause-here g c = λ q h.
    passes_all c.into_iter-key-iterator.result c.loop-key.key-iterator
    (λ q. (place : _) (d : _) → at_stores g.S.DotStore.at bytes_cmp c.loop-key.held (q, place) d
    ≡ at_keys g.S.DotStore.at (stores_of c.args.trie.now) (q, place) d)
    c.loop-key.invariant.0 c.in-None.ensures.steps.0 q (subst (λ keys. Among keys q) (sym c.into_iter-key-iterator.ensures.into_iter_gives.0)
    (among_exact bytes_cmp exact_bytes c.args.keys.now.keys q h))
