use Rattle.std.proofs.Common.{◌≡◌, ◌∙◌, refl, sym, ap, subst}
use Rattle.std.proofs.lemmas.Bool.{false≢true}
use Rattle.std.specs.BTreeSet.{insert_key}
use Rattle.dots.specs.Bytes.{bytes_cmp}
use Rattle.hash_path.specs.Map.{walk_under}
use Rattle.map_changes.proofs.Under.{LooksAt, all_left, one_less, next_there, none_left, changed_here, same_here}
use Rattle.map_changes.proofs.Levels.{nothing_found, finds_one}
use Rattle.delta_ops.proofs.Keeping.{more_has, more_keeps}
use Rattle.map_changes.proofs.gathering.gather.Goals as goal

pub loop-key-init : goal.loop-key-init
loop-key-init g c = (
  subst (λ left. LooksAt c.args.these.now.map c.args.others.now.map (walk_under (g.H.PathHash.hash_of c.args.these.now.hash) c.args.prefix c.args.these.now.map)
      left c.args.found.now.keys)
      (sym (c.into_iter-key-iterator.ensures.into_iter_gives ∙ c.iter_under-key-items.ensures))
      (all_left c.args.these.now.map c.args.others.now.map (walk_under (g.H.PathHash.hash_of c.args.these.now.hash) c.args.prefix c.args.these.now.map)
      c.args.found.now.keys),
  nothing_found c.args.these.now.map c.args.others.now.map c.args.found.now.keys,
)

pub loop-key-preserved-in_ok-insert : goal.loop-key-preserved-in_ok-insert
loop-key-preserved-in_ok-insert g c =
    let these = c.args.these.now.map in
    let others = c.args.others.now.map in
    let key = c.in-Some.key.now in
    let fields = c.in-Some.fields.now in
    let old = c.loop-key.found.keys in
    let new = c.insert.new.self.keys in
    let hash_of = g.H.PathHash.hash_of c.args.these.now.hash in
    let there = next_there these others hash_of c.args.prefix c.loop-key.key-iterator c.next.new.self key fields old c.loop-key.invariant.0
    c.in-Some.ensures.steps in
    let differs = changed_here these others key fields _ there c.lookup.ensures (λ same. false≢true (c.if-not-is_same.ensures.1 same)) in
    let is : new ≡ insert_key bytes_cmp old key = c.in_ok-insert.ensures.keys ∙ ap (insert_key bytes_cmp old) c.in_ok-copy.ensures.ok in (
      one_less these others (walk_under hash_of c.args.prefix these) c.loop-key.key-iterator c.next.new.self key fields old new c.loop-key.invariant.0
          c.in-Some.ensures.steps
          (λ q h. more_keeps old new key is q h) (λ _. more_has old new key is),
      finds_one these others c.args.found.now.keys old new key c.loop-key.invariant.1 is differs,
    )

pub loop-key-preserved : goal.loop-key-preserved
loop-key-preserved g c =
    let these = c.args.these.now.map in
    let others = c.args.others.now.map in
    let key = c.in-Some.key.now in
    let fields = c.in-Some.fields.now in
    let old = c.loop-key.found.keys in
    let hash_of = g.H.PathHash.hash_of c.args.these.now.hash in
    let there = next_there these others hash_of c.args.prefix c.loop-key.key-iterator c.next.new.self key fields old c.loop-key.invariant.0
    c.in-Some.ensures.steps in
    let same = same_here these others key fields _ there c.lookup.ensures (c.if-not-is_same.ensures.0 refl) in (
      one_less these others (walk_under hash_of c.args.prefix these) c.loop-key.key-iterator c.next.new.self key fields old old c.loop-key.invariant.0
          c.in-Some.ensures.steps
          (λ q h. h) (λ differs. absurd (same differs)),
      c.loop-key.invariant.1,
    )

pub returns-clause-each : goal.returns-clause-each
returns-clause-each g c =
    none_left c.args.these.now.map c.args.others.now.map (g.H.PathHash.hash_of c.args.these.now.hash)
    c.args.prefix c.loop-key.key-iterator c.loop-key.found.keys c.loop-key.invariant.0
    c.in-None.ensures.steps.0
