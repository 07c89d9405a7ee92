use Rattle.std.proofs.Common.{◌∙◌, ap, arith, cond, true, sym, subst}
use Rattle.std.specs.Prelude.{IsTrue}
use Rattle.std.specs.Cmp.{eq_by_cmp_equiv}
use Rattle.std.specs.Cmp.Lexicographic.{nat_list_cmp_total}
use Rattle.std.proofs.lemmas.Map.Lookups.{exact_bytes}
use Rattle.dots.specs.Bytes.{bytes_cmp}
use Rattle.ordered_list.proofs.Places.{items_more}
use Rattle.trie_map.proofs.Visits.{Among}
use Rattle.live_map.specs.Index.{has_key}
use Rattle.live_map.proofs.Members.{all_among, among_exact, kept_by}
use Rattle.live_map.proofs.touched.Touched.key_set.Goals as goal

pub loop-key-preserved : goal.loop-key-preserved
loop-key-preserved g c =
    let e = c.key-item.result in
    let new = c.insert.new.self.keys in
    items_more (λ k. IsTrue (has_key new k)) _ c.loop-key.key-index e c.loop-key-test.true c.key-item.is
    (λ k other below. c.in_ok-insert.ensures.updates.0 _ ∙ kept_by _ _ (c.loop-key.invariant k other below))
    (subst (λ k. IsTrue (has_key new k)) c.in_ok-copy.ensures.ok (c.in_ok-insert.ensures.updates.0 c.in_ok-copy.field-0
    ∙ ap (λ b. cond b true (has_key c.loop-key.set.keys c.in_ok-copy.field-0)) ((eq_by_cmp_equiv nat_list_cmp_total).refl c.in_ok-copy.field-0)))

pub returns-clause-ok : goal.returns-clause-ok
returns-clause-ok g c = λ q h.
    let keys = c.self.inside.keys.items in
    all_among (λ k. IsTrue (has_key c.loop-key.set.keys k)) c.deref-key-items.result.now
    (λ k e below. c.loop-key.invariant k e (omega (arith, below, c.loop-key-test.false))) q
    (subst (λ ks. Among ks q) (sym c.deref-key-items.ensures.value)
    (among_exact bytes_cmp exact_bytes keys q (subst (λ ks. IsTrue (has_key ks q)) (sym c.self.view_is) h)))
