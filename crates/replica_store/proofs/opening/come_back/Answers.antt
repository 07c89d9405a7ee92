use Rattle.std.proofs.Common.{◌≡◌, ◌∙◌, [], ap, sym, map, length, subst, arith}
use Rattle.std.specs.Vec.{vec_len}
use Rattle.std.proofs.lemmas.Bool.{eqb-true}
use Rattle.sqlite.specs.Effect.{Database}
use Rattle.sqlite.specs.State.{HasCleanDisk}
use Rattle.durable_log.specs.Log.{log_state, strings}
use Rattle.replica_core.specs.Meaning.{meaning}
use Rattle.replica_store.specs.Rebuilt.{IsRebuilt}
use Rattle.replica_store.proofs.Back.{if_ok, kept_as, keeps_as, none_held, fresh_as, fresh_kept}
use Rattle.replica_store.proofs.Surviving.{was_clean}
use Rattle.replica_store.proofs.opening.come_back.Goals as goal

pub returns-then-not-is_empty-clause-back : goal.returns-then-not-is_empty-clause-back
returns-then-not-is_empty-clause-back g c clean =
    let found = map (λ string. string.items) c.in-Ok.strings.items in
    if_ok c.rebuild.result (λ replica rebuilt.
    kept_as (strings (log_state g.S.Store c.args.log.now).now.trees) found (meaning replica) (c.in-Ok.ensures.strings clean)
    (subst (λ ss. IsRebuilt (map (λ string. string.items) ss) (meaning replica)) c.as_slice.ensures.value rebuilt)) c.rebuild.ensures.rebuilt

pub returns-then-not-is_empty-clause-kept : goal.returns-then-not-is_empty-clause-kept
returns-then-not-is_empty-clause-kept g c clean =
    let found = map (λ string. string.items) c.in-Ok.strings.items in
    let old = log_state g.S.Store c.args.log.now in
    let new = log_state g.S.Store c.read.new.self in
    let same = c.in-Ok.ensures.same clean in
    if_ok c.rebuild.result (λ replica rebuilt.
    keeps_as old.now.trees new.now.trees found (meaning replica) (c.in-Ok.ensures.strings clean) (ap (λ (d : Database). d.trees) same.0.now_is)
    (subst (λ ss. IsRebuilt (map (λ string. string.items) ss) (meaning replica)) c.as_slice.ensures.value rebuilt)) c.rebuild.ensures.rebuilt

pub returns-clause-back : goal.returns-clause-back
returns-clause-back g c clean =
    let found = map (λ string. string.items) c.in-Ok.strings.items in
    let old = log_state g.S.Store c.args.log.now in
    let read = log_state g.S.Store c.read.new.self in
    let new = log_state g.S.Store c.keep_name.new.log in
    let was : HasCleanDisk read = was_clean read new _ c.keep_name.ensures.any_moment clean in
    let zero : vec_len c.in-Ok.strings ≡ 0 = eqb-true (vec_len c.in-Ok.strings) 0 (sym c.is_empty.ensures ∙ c.if-not-is_empty.false) in
    let none : length c.in-Ok.strings.items ≡ 0 = omega (arith, c.in-Ok.strings.ok.0, zero) in
    fresh_as (strings old.now.trees) c.args.name (meaning c.new.result)
    (none_held (λ string. string.items) (strings old.now.trees) c.in-Ok.strings.items (c.in-Ok.ensures.strings was) none) c.new.ensures.fresh

pub returns-clause-kept : goal.returns-clause-kept
returns-clause-kept g c clean =
    let found = map (λ string. string.items) c.in-Ok.strings.items in
    let old = log_state g.S.Store c.args.log.now in
    let read = log_state g.S.Store c.read.new.self in
    let new = log_state g.S.Store c.keep_name.new.log in
    let was : HasCleanDisk read = was_clean read new _ c.keep_name.ensures.any_moment clean in
    let zero : vec_len c.in-Ok.strings ≡ 0 = eqb-true (vec_len c.in-Ok.strings) 0 (sym c.is_empty.ensures ∙ c.if-not-is_empty.false) in
    let none : length c.in-Ok.strings.items ≡ 0 = omega (arith, c.in-Ok.strings.ok.0, zero) in
    let same = c.in-Ok.ensures.same was in
    let held = none_held (λ string. string.items) (strings old.now.trees) c.in-Ok.strings.items (c.in-Ok.ensures.strings was) none in
    fresh_kept old.now.trees read.now.trees new.now.trees c.args.name (meaning c.new.result) held (ap (λ (d : Database). d.trees) same.0.now_is)
    (c.in_ok-keep_name.ensures.kept clean).1 c.new.ensures.fresh
