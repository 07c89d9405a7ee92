-- Sessions between replicas that have seen sets of operations.
use Rattle.std.proofs.Common.{◌≡◌, ℕ, List, ◌++◌, Bool, true, false, cond, Some, None, refl, sym, ◌∙◌, ap, subst}
use Rattle.std.specs.Prelude.{◌||◌, IsSome}
use Rattle.std.specs.List.{Contains, filter}
use Rattle.std.specs.Ordering.{eq_by_cmp}
use Rattle.std.specs.FinMap as finite
use Rattle.std.specs.FinMap.Entries.{find}
use Rattle.dots.specs.Bytes.{bytes_cmp}
use Rattle.dots.specs.declared.dot.Dot.{Dot}
use Rattle.causal_context.specs.Dots.{dot_cmp}
use Rattle.causal_context.proofs.Dots.{is_eq-dot_cmp, same_from_test}
use Rattle.prefix_digest.specs.Values.{unknown_at}
use Rattle.hash_path.proofs.Words.{tied_same, same_tied}
use Rattle.causal_join.specs.OrMap.{ValuesValue, FieldsValue}
use Rattle.op_model.specs.Meaning.{greater, state, value_under}
use Rattle.op_model.specs.Place.{Place, place_of}
use Rattle.op_model.specs.Shown.{is_on}
use Rattle.op_model.specs.Operation.{Write, Operation, writes, observed, has, known, NoReuse, IsPartOf}
use Rattle.op_model.specs.State.{Same, join, joined}
use Rattle.std.proofs.lemmas.List.Elements.{Contains-append_right}
use Rattle.op_model.proofs.Fresh.{NoReuse-part, part_left, part_both, itself_part}
use Rattle.op_model.proofs.Making.{state-inside}
use Rattle.op_model.proofs.SameSets.{state-same}
use Rattle.op_model.proofs.Members.{from_filter}
use Rattle.op_model.proofs.Union.{at-state, found_under, in_writes_left, in_writes_right, join-states}
use Rattle.prefix_digest.specs.MapOf.{map_of, root_digest, IsMapOf}
use Rattle.prefix_digest.proofs.MapsOf.{stands_for}
use Rattle.sync_model.specs.Opened.{held_in}
use Rattle.sync_model.specs.Fetch.{within_values}
use Rattle.sync_model.specs.Laws.{IsLawfulMap, KnowsEachDot, OneValue}
use Rattle.sync_model.specs.Closing.{held_state, IsBelow}
use Rattle.sync_model.specs.Sets.{Done, FetchGoesOn, Opens}
use Rattle.sync_model.proofs.Members.{In, In-Contains, Contains-In}
use Rattle.sync_model.proofs.Held.{values_or_none, held_there}
use Rattle.sync_model.proofs.Keeping.{dot_tied}
use Rattle.sync_model.proofs.Lawful.{map_lawful, found}
use Rattle.sync_model.proofs.Closings.{closing}
use Rattle.sync_model.proofs.Fetches.{fetching}
use Rattle.sync_model.proofs.Fitted.{fitting, opening}
use Rattle.sync_model.proofs.Fits.{all_pass}

-- ---- states that are the same join to the same

module _ {P H : Type 0} where
  joins_same : (most : H → H → H) (l p q : Rattle.op_model.specs.State.State P H) → Same p q → Same (join most l p) (join most l q)
  joins_same most l p q same = record {
    at = λ place dot k. joined most (l.at place dot) (l.has dot) (same.at place dot k) (same.has dot k);
    has = λ dot. ap (λ b. l.has dot || b) (same.has dot);
  }

  same_same : (p q r : Rattle.op_model.specs.State.State P H) → Same p q → Same q r → Same p r
  same_same p q r a b = record { at = λ place dot. a.at place dot ∙ b.at place dot; has = λ dot. a.has dot ∙ b.has dot }

left_part : (S T : List Operation) → IsPartOf S (S ++ T)
left_part S T = part_left S S T (itself_part S)

right_part : (S T : List Operation) → IsPartOf T (S ++ T)
right_part S T = λ o h. Contains-append_right S T o h

-- ---- the map of a set is lawful

dots_exact : (d e : Dot) → eq_by_cmp dot_cmp d e ≡ true → d ≡ e
dots_exact d e t = same_from_test d e (sym (is_eq-dot_cmp d e) ∙ t)

module _ (S : List Operation) (once : NoReuse S) where
  is_map : IsMapOf (map_of S) (state S)
  is_map = stands_for S once

  lawful_of : IsLawfulMap (map_of S)
  lawful_of = map_lawful (map_of S) (state S) is_map

  -- and its state is that of the set
  state_is : Same (held_state (map_of S) (has (known S))) (state S)
  state_is = record { at = λ place dot. is_map.at place dot; has = λ dot. refl }

  -- what stands at a dot of a key's field stands there in the state, and is known
  stands_there : (key : List ℕ) (fs : FieldsValue) → finite.get (map_of S) key ≡ Some fs → (field : List ℕ) (vs : ValuesValue) → In fs (field, vs)
      → (d : Dot) (v : List ℕ) → In vs (d, v)
      → (state S).at (place_of key field) d ≡ Some v
  stands_there key fs e field vs h d v i =
      let order = is_map.ordered key fs e in
      let at_field = found bytes_cmp tied_same (λ f. same_tied f f refl) fs field vs order.ordered h in
      let at_dot = found dot_cmp dots_exact dot_tied vs d v (order.each field vs (Contains-In fs (field, vs) h)) i in
      sym (is_map.at (place_of key field) d) ∙ ap (λ o. held_in o field d) e ∙ held_there (Some fs) field d
      ∙ ap (λ o. find dot_cmp d (values_or_none o)) at_field ∙ at_dot

  within_of : KnowsEachDot (has (known S)) (map_of S)
  within_of key fs e =
      all_pass (λ f. within_values (has (known S)) f.1) fs (λ f h.
      all_pass (λ v. has (known S) v.0) f.1 (λ v i.
      state-inside S (place_of key f.0) v.0 (subst IsSome (sym (stands_there key fs e f.0 f.1 h v.0 v.1 i)) (some_is v.1))))
    where
      some_is : (x : List ℕ) → IsSome (Some x)
      some_is x = refl

-- ---- a dot has one value

written : (S : List Operation) (place : Place) (d : Dot) (x : List ℕ) → (state S).at place d ≡ Some x → (w : Write) × Contains (writes S) w × (w.id ≡ d)
    × (w.value ≡ x)
written S place d x e = step (has (observed S) d) (sym (at-state S place d) ∙ e)
  where
    step : (b : Bool) → cond b None (value_under d (filter (is_on place) (writes S))) ≡ Some x → (w : Write) × Contains (writes S) w × (w.id ≡ d)
        × (w.value ≡ x)
    step true t = absurd cc
    step false t = let there = found_under d (filter (is_on place) (writes S)) x t in
        (there.0, (from_filter (is_on place) (writes S) there.0 there.1).0, there.2, there.3)

one_value_of : (S T : List Operation) → NoReuse (S ++ T) → OneValue (map_of S) (map_of T)
one_value_of S T once key gs e field vs h d o v held i =
    let once_mine = NoReuse-part S (S ++ T) (left_part S T) once in
    let once_theirs = NoReuse-part T (S ++ T) (right_part S T) once in
    let mine = written S (place_of key field) d o (sym ((is_map S once_mine).at (place_of key field) d) ∙ held) in
    let theirs = written T (place_of key field) d v (stands_there T once_theirs key gs e field vs (In-Contains gs (field, vs) h) d v
    (In-Contains vs (d, v) i)) in
    let one = once.one_write mine.0 theirs.0 (in_writes_left S T mine.0 mine.1) (in_writes_right S T theirs.0 theirs.1) (mine.2 ∙ sym theirs.2) in
    sym mine.3 ∙ ap (λ (w : Write). w.value) one ∙ theirs.3

-- ---- a session that ends

pub done : Done
unfolding root_digest
done hash_of asked opened seen ts f part once no_clash fetched none =
    let once_seen = NoReuse-part seen (seen ++ opened) (left_part seen opened) once in
    let once_opened = NoReuse-part opened (seen ++ opened) (right_part seen opened) once in
    let once_asked = NoReuse-part asked seen part once_seen in
    let law = fetching hash_of (map_of asked) (map_of opened) (has (known asked)) (has (known opened)) ts f (lawful_of asked once_asked) no_clash fetched in
    let below : IsBelow (held_state (map_of asked) (has (known asked))) (state seen) =
    same_same _ _ _ (joins_same greater (state seen) _ _ (state_is asked once_asked))
    (same_same _ _ _ (join-states seen asked (NoReuse-part (seen ++ asked) seen (part_both seen asked seen (itself_part seen) part) once_seen))
    (state-same (seen ++ asked) seen (record { there = part_both seen asked seen (itself_part seen) part; back = left_part seen asked }))) in
    let closed = closing (map_of asked) (map_of opened) f.built (has (known asked)) (has (known opened)) (state seen) (lawful_of opened once_opened)
    (law.done none).0 below in
    same_same _ _ _ closed (same_same _ _ _ (joins_same greater (state seen) _ _ (state_is opened once_opened)) (join-states seen opened once))

pub goes_on : FetchGoesOn
unfolding root_digest
goes_on hash_of asked opened ts f once no_clash fetched p d w =
    let once_asked = NoReuse-part asked (asked ++ opened) (left_part asked opened) once in
    let once_opened = NoReuse-part opened (asked ++ opened) (right_part asked opened) once in
    let next = fitting hash_of (map_of asked) (map_of opened) (has (known asked)) (has (known opened)) ts f (lawful_of asked once_asked) no_clash
    (within_of opened once_opened) (one_value_of asked opened once) fetched p d w in (
      record { prefix = p; page = next.0; sent = unknown_at (has (known asked)) hash_of (map_of opened) p },
      refl,
      next.1,
      refl,
      (next.2.0, (f, fetched, next.2.1)),
    )

pub opens : Opens
unfolding root_digest
opens hash_of asked opened once no_clash =
    opening hash_of (map_of asked) (map_of opened) (has (known asked)) (has (known opened))
    (lawful_of asked (NoReuse-part asked (asked ++ opened) (left_part asked opened) once)) no_clash
    (within_of opened (NoReuse-part opened (asked ++ opened) (right_part asked opened) once))
