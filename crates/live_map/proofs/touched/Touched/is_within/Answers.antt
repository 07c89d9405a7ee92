use Rattle.std.proofs.Common.{arith, sym, subst}
use Rattle.std.specs.Prelude.{IsTrue}
use Rattle.std.proofs.lemmas.Map.Lookups.{exact_bytes}
use Rattle.dots.specs.Bytes.{bytes_cmp}
use Rattle.trie_map.proofs.Visits.{Among}
use Rattle.live_map.specs.Index.{has_key}
use Rattle.live_map.proofs.Members.{all_among, among_exact}
use Rattle.live_map.proofs.touched.Touched.is_within.Goals as goal

pub returns : goal.returns
returns g c = λ t q h.
    let keys = c.self.inside.keys.items in
    all_among (λ k. IsTrue (has_key c.args.keys.now.keys k)) c.deref-key-items.result.now
    (λ k e below. c.loop-key.invariant k e (omega (arith, below, c.loop-key-test.false))) q
    (subst (λ ks. Among ks q) (sym c.deref-key-items.ensures.value)
    (among_exact bytes_cmp exact_bytes keys q (subst (λ ks. IsTrue (has_key ks q)) (sym c.self.view_is) h)))
