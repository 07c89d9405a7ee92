use Rattle.std.proofs.Common.{◌≡◌, ℕ, ◌+◌, ◌∷◌, ◌++◌, [], take, drop, map, ap, sym, subst, ◌∙◌, arith, length, length-append}
use Rattle.std.proofs.lemmas.List.{drop_more, take_more}
use Rattle.hash_path.specs.Fnv1a.{fnv1a}
use Rattle.replica_core.specs.Meaning.{meaning}
use Rattle.replica_model.specs.History.{Runs}
use Rattle.replica_core.specs.Writing.{answer_of, call_of}
use Rattle.node_threads.specs.Batch.{IsRefusedAs, made_at}
use Rattle.node_threads.specs.History.{entries_of}
use Rattle.node_threads.proofs.Batches.{wrote_more}
use Rattle.node_threads.proofs.acts.batching.write_all.Goals as goal

pub loop-one-preserved : goal.loop-one-preserved
loop-one-preserved g c =
    let writes = c.args.writes.now in
    let i = c.loop-one.one-index in
    let write = c.one-item.result in
    let wrote = c.loop-one.wrote.items in
    let more : take (i + 1) writes ≡ take i writes ++ write ∷ [] = take_more writes i write c.loop-one-test.true
    ∙ ap (λ w. take i writes ++ w ∷ []) (sym c.one-item.is) in
    record {
      runs =
          λ place. wrote_more place (meaning c.args.replica.now) (meaning c.loop-one.replica) (meaning c.write.new.self) (take i writes)
          (take (i + 1) writes) write wrote
          c.put_into.new.list.items c.in-Ok.told (c.loop-one.invariant.runs place) c.in-Ok.ensures.ok.step more c.put_into.ensures.items;
      count = omega (arith, ap length c.put_into.ensures.items, length-append wrote (c.in-Ok.told ∷ []), c.loop-one.invariant.count);
      room = omega (arith, c.loop-one.invariant.room, c.put_into.ensures.capacity);
    }

-- what was refused changed nothing
pub returns-in-Err-clause-runs : goal.returns-in-Err-clause-runs
returns-in-Err-clause-runs g c place =
    let answers = map answer_of c.loop-one.wrote.items in
    let whole = subst (λ (n : ℕ). Runs fnv1a (meaning c.args.replica.now) (entries_of (made_at place (take n c.args.writes.now))) answers
    (meaning c.loop-one.replica))
    (sym c.loop-one.invariant.count) (c.loop-one.invariant.runs place) in
    subst (λ r. Runs fnv1a (meaning c.args.replica.now) (entries_of (made_at place (take (length c.loop-one.wrote.items) c.args.writes.now))) answers r)
    (sym c.in-Err.ensures.unchanged.same) whole

pub returns-in-Err-clause-stopped : goal.returns-in-Err-clause-stopped
returns-in-Err-clause-stopped g c =
    let writes = c.args.writes.now in
    let i = c.loop-one.one-index in
    let write = c.one-item.result in (
      write,
      drop (i + 1) writes,
      ap (λ (n : ℕ). drop n writes) c.loop-one.invariant.count
          ∙ (drop_more writes i write c.loop-one-test.true ∙ ap (λ w. w ∷ drop (i + 1) writes) (sym c.one-item.is)),
      subst (λ r. IsRefusedAs r (call_of write) c.in-Err.refusal) (sym c.in-Err.ensures.unchanged.same) c.in-Err.ensures.refused,
    )

pub returns-clause-runs : goal.returns-clause-runs
returns-clause-runs g c place =
    subst (λ (n : ℕ). Runs fnv1a (meaning c.args.replica.now) (entries_of (made_at place (take n c.args.writes.now))) (map answer_of c.loop-one.wrote.items)
    (meaning c.loop-one.replica))
    (sym c.loop-one.invariant.count) (c.loop-one.invariant.runs place)
