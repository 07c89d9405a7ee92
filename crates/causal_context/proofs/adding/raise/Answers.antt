use Rattle.std.proofs.Common.{◌≡◌, ℕ, cond, eqb, sym, ap, subst, ◌∙◌, arith}
use Rattle.std.specs.Ordering.{nat_cmp}
use Rattle.std.specs.Cmp.{nat_cmp_total}
use Rattle.ordered_list.proofs.Places.{Ascends, ascends_insert}
use Rattle.causal_context.specs.Context.{known_up_to, in_cloud}
use Rattle.causal_context.proofs.Vectors.{known_up_to-insert, HasNoZero-insert, found_from_known}
use Rattle.causal_context.proofs.Known.{known-raised, apart-raised}
use Rattle.causal_context.proofs.Raised.{run_alone, none_in_run}
use Rattle.causal_context.proofs.adding.raise.Goals as goal

pub replace-requires : goal.replace-requires
replace-requires g c = found_from_known c.args.vector.now c.name-name.result (let at = ap (known_up_to c.args.vector.now) c.name-name.ensures in
    let there = c.requires.entry in omega arith)

pub returns-clause-ok : goal.returns-clause-ok
returns-clause-ok g c =
    let old = c.args.vector.now in
    let new = c.replace.new.self in
    let cloud = in_cloud c.args.cloud.now in
    let raised : (q : ℕ) → known_up_to new q ≡ cond (eqb c.args.dot.name q) c.args.dot.number (known_up_to old q) =
    λ q. known_up_to-insert old new c.name-name.result c.number.result q (c.replace.ensures.updates q)
    ∙ ap (λ n. cond (eqb n q) c.number.result (known_up_to old q)) c.name-name.ensures
    ∙ ap (λ n. cond (eqb c.args.dot.name q) n (known_up_to old q)) c.number.ensures.value in
    known-raised (known_up_to old) (known_up_to new) cloud cloud c.args.dot c.args.dot.number c.requires.next
    (run_alone (known_up_to old) cloud c.args.dot c.requires.last) raised (none_in_run cloud c.args.dot)

pub returns-clause-canonical : goal.returns-clause-canonical
returns-clause-canonical g c =
    let old = c.args.vector.now in
    let new = c.replace.new.self in
    let cloud = in_cloud c.args.cloud.now in
    let raised : (q : ℕ) → known_up_to new q ≡ cond (eqb c.args.dot.name q) c.args.dot.number (known_up_to old q) =
    λ q. known_up_to-insert old new c.name-name.result c.number.result q (c.replace.ensures.updates q)
    ∙ ap (λ n. cond (eqb n q) c.number.result (known_up_to old q)) c.name-name.ensures
    ∙ ap (λ n. cond (eqb c.args.dot.name q) n (known_up_to old q)) c.number.ensures.value in
    record {
      names_ascend = subst (Ascends nat_cmp) (sym c.replace.ensures.entries)
          (ascends_insert nat_cmp nat_cmp_total old c.name-name.result c.number.result c.requires.canonical.names_ascend);
      dots_ascend = c.requires.canonical.dots_ascend;
      no_zero = HasNoZero-insert old new c.name-name.result c.number.result (let from = c.requires.next in let value = c.number.ensures.value in omega arith)
          c.replace.ensures.updates c.requires.canonical.no_zero;
      apart = apart-raised (known_up_to old) (known_up_to new) cloud cloud c.args.dot c.args.dot.number c.requires.next
          c.requires.canonical.apart (run_alone (known_up_to old) cloud c.args.dot c.requires.last) raised (none_in_run cloud c.args.dot);
      bounded = c.requires.canonical.bounded;
    }
