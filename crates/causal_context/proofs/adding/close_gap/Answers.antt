use Rattle.std.proofs.Common.{◌≡◌, ℕ, cond, eqb, sym, ap, subst, ◌∙◌, arith}
use Rattle.causal_context.specs.Context.{known_up_to, in_cloud}
use Rattle.std.specs.Ordering.{nat_cmp}
use Rattle.std.specs.Cmp.{nat_cmp_total}
use Rattle.ordered_list.proofs.Places.{Ascends, ascends_insert}
use Rattle.causal_context.proofs.Vectors.{known_up_to-insert, HasNoZero-insert}
use Rattle.causal_context.proofs.Known.{known-raised, apart-raised, old_from_new}
use Rattle.causal_context.proofs.adding.close_gap.Goals as goal

pub returns-clause-ok : goal.returns-clause-ok
returns-clause-ok g c =
    let old = c.args.vector.now in
    let new = c.insert.new.self in
    let end = c.run_end-end.result in
    let raised : (q : ℕ) → known_up_to new q ≡ cond (eqb c.args.dot.name q) end (known_up_to old q) =
    λ q. known_up_to-insert old new c.name.result end q (c.in_ok-insert.ensures.updates q) ∙ ap (λ n. cond (eqb n q) end (known_up_to old q)) c.name.ensures in
    known-raised (known_up_to old) (known_up_to new) (in_cloud c.args.cloud.now) (in_cloud c.take_run.new.cloud)
    c.args.dot end c.requires.next c.run_end-end.ensures raised c.take_run.ensures.run

pub returns-clause-canonical : goal.returns-clause-canonical
returns-clause-canonical g c =
    let old = c.args.vector.now in
    let new = c.insert.new.self in
    let end = c.run_end-end.result in
    let raised : (q : ℕ) → known_up_to new q ≡ cond (eqb c.args.dot.name q) end (known_up_to old q) =
    λ q. known_up_to-insert old new c.name.result end q (c.in_ok-insert.ensures.updates q) ∙ ap (λ n. cond (eqb n q) end (known_up_to old q)) c.name.ensures in
    record {
      names_ascend = subst (Ascends nat_cmp) (sym c.in_ok-insert.ensures.ok)
          (ascends_insert nat_cmp nat_cmp_total old c.name.result end c.requires.canonical.names_ascend);
      dots_ascend = c.take_run.ensures.ordered;
      no_zero = HasNoZero-insert old new c.name.result end (omega arith) c.in_ok-insert.ensures.updates c.requires.canonical.no_zero;
      apart = apart-raised (known_up_to old) (known_up_to new) (in_cloud c.args.cloud.now) (in_cloud c.take_run.new.cloud) c.args.dot end c.requires.next
          c.requires.canonical.apart c.run_end-end.ensures raised c.take_run.ensures.run;
      bounded = λ d h. c.requires.canonical.bounded d (old_from_new _ _ _ (c.take_run.ensures.run d) h);
    }
