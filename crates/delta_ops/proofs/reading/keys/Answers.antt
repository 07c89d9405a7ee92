use Rattle.std.proofs.Common.{◌≡◌, ◌↔◌, Contains, ap, sym, ◌∙◌, subst, ⊎_elim}
use Rattle.std.specs.BTreeSet.{insert_key}
use Rattle.dots.specs.Bytes.{bytes_cmp}
use Rattle.causal_join.specs.OrMap.{fields_at}
use Rattle.hash_path.specs.Map.{walk}
use Rattle.op_model.proofs.Ascending.{nothing_ascends}
use Rattle.op_model.proofs.Members.{nothing_in}
use Rattle.op_model.specs.Meaning.{HoldsKey}
use Rattle.op_model.specs.Shown.{IsAscending}
use Rattle.trie_map.specs.Keyed.{NoStoreIsEmpty}
use Rattle.trie_map.proofs.Visits.{visits_none, visits_next, visits_more, visits_all}
use Rattle.delta_ops.specs.LiveMap.{no_dots, store_state}
use Rattle.delta_ops.proofs.Keeping.{more_ascend, more_has, more_keeps, more_only, key_holds, holds_fields}
use Rattle.delta_ops.proofs.reading.keys.Goals as goal

pub loop-key-init : goal.loop-key-init
loop-key-init g c = (
  visits_none c.args.store.now.1 (g.H.PathHash.hash_of c.frozen.result.now.hash) c.into_iter-key-iterator.result (Contains c.new-found.result.keys)
      (c.into_iter-key-iterator.ensures.into_iter_gives ∙ c.iter-key-items.ensures
      ∙ ap (walk (g.H.PathHash.hash_of c.frozen.result.now.hash)) (c.frozen.ensures.map)),
  subst IsAscending (sym c.new-found.ensures.empty) nothing_ascends,
  λ q h. nothing_in q (subst (λ keys. Contains keys q) c.new-found.ensures.empty h),
)

pub loop-key-preserved : goal.loop-key-preserved
loop-key-preserved g c =
    let map = c.args.store.now.1 in
    let old = c.loop-key.found.keys in
    let new = c.insert.new.self.keys in
    let key = c.in-Some.key.now in
    let fields = c.in-Some.field-0-1.now in
    let is : new ≡ insert_key bytes_cmp old key = c.in_ok-insert.ensures.keys ∙ ap (insert_key bytes_cmp old) c.in_ok-copy.ensures.ok in
    let there = visits_next map c.loop-key.key-iterator c.next.new.self key fields (Contains old) c.loop-key.invariant.0 c.in-Some.ensures.steps in
    let filled = subst (NoStoreIsEmpty fields_at) (c.frozen.ensures.map) c.frozen.ensures.filled key fields there in (
      visits_more map c.loop-key.key-iterator c.next.new.self key fields (Contains old) (Contains new) c.loop-key.invariant.0 c.in-Some.ensures.steps
          (more_has old new key is) (λ q apart was. more_keeps old new key is q was),
      more_ascend old new key is c.loop-key.invariant.1,
      λ q h. ⊎_elim (λ (e : q ≡ key). subst (HoldsKey (store_state c.args.store.now)) (sym e) (key_holds (c.args.store.now, no_dots) key fields there filled))
          (λ was. c.loop-key.invariant.2 q was) (more_only old new key is q h),
    )

pub returns-clause-ascending : goal.returns-clause-ascending
returns-clause-ascending g c = subst IsAscending (sym c.in_ok-listed.ensures) c.loop-key.invariant.1

pub returns-clause-held : goal.returns-clause-held
returns-clause-held g c = λ key.
    subst (λ keys. Contains keys key ↔ HoldsKey (store_state c.args.store.now) key) (sym c.in_ok-listed.ensures) (
      c.loop-key.invariant.2 key,
      λ h. let there = holds_fields (c.args.store.now, no_dots) key h in
          visits_all c.args.store.now.1 c.loop-key.key-iterator (Contains c.loop-key.found.keys)
          c.loop-key.invariant.0 c.in-None.ensures.steps.0 key there.0 there.1,
    )
