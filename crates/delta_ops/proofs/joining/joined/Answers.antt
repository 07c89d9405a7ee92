use Rattle.std.proofs.Common.{ap, ◌∙◌, arith}
use Rattle.causal_join.specs.OrMap.{fields_at, or_map_at}
use Rattle.delta_ops.specs.Group.{group_state}
use Rattle.delta_ops.specs.Log.{deltas_of}
use Rattle.dot_store.specs.Store.{HoldsSame}
use Rattle.trie_map.specs.Keyed.{at_keys}
use Rattle.delta_ops.proofs.Groups.{copied-state, joined-one, joined-two, list_of_one, list_of_two}
use Rattle.delta_ops.proofs.Stacking.{inside_group, same_group}
use Rattle.delta_ops.proofs.Stores.{there_from}
use Rattle.delta_ops.proofs.joining.joined.Goals as goal

pub returns-in-len1-clause-ok : goal.returns-in-len1-clause-ok
returns-in-len1-clause-ok g c =
    let log = c.args.deltas.now in
    joined-one c.copy.result log c.only-item.result (list_of_one log c.only-item.result (omega (arith, c.in-len1.len_at_least, c.in-len1.len_below))
    c.only-item.is) (copied-state c.copy.result c.only-item.result.value (rw c.deref.ensures at c.copy.ensures.ok))

pub returns-in-len2-clause-ok : goal.returns-in-len2-clause-ok
returns-in-len2-clause-ok g c =
    let log = c.args.deltas.now in
    joined-two c.join.result log c.older-item.result c.newer-item.result
    (list_of_two log c.older-item.result c.newer-item.result (omega (arith, c.in-len2.len_at_least, c.in-len2.len_below)) c.older-item.is c.newer-item.is)
    (rw (c.deref-in-len2.ensures, c.deref-in-len2-2.ensures) at c.join.ensures.ok)

pub unwrap-requires : goal.unwrap-requires
unwrap-requires g c =
    let listed : HoldsSame (or_map_at c.in_ok-store.store) (at_keys fields_at c.in_ok-live.live.0.0) =
    λ path d. c.in_ok-store.ensures.ok path d ∙ ap (λ m. at_keys fields_at m path d) c.store.ensures.value in
    there_from c.from_parts.result c.from_parts.ensures.outside.0
    (inside_group c.in_ok-store.store c.in_ok-known.known c.in_ok-live.live.0.0 (group_state (deltas_of c.args.deltas.now)) listed
    c.in_ok-live.ensures.ok c.in_ok-known.ensures.ok c.in_ok-known.ensures.inside)

pub returns-clause-ok : goal.returns-clause-ok
returns-clause-ok g c =
    let listed : HoldsSame (or_map_at c.in_ok-store.store) (at_keys fields_at c.in_ok-live.live.0.0) =
    λ path d. c.in_ok-store.ensures.ok path d ∙ ap (λ m. at_keys fields_at m path d) c.store.ensures.value in
    same_group c.unwrap.result c.in_ok-store.store c.in_ok-known.known c.in_ok-live.live.0.0 (group_state (deltas_of c.args.deltas.now))
    (rw c.unwrap.ensures at c.from_parts.ensures.pair) listed c.in_ok-live.ensures.ok c.in_ok-known.ensures.ok
