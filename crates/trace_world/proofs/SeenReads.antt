-- A read is told by what its replica has seen.
use Rattle.std.proofs.Common.{◌≡◌, inl, inr, ℕ, Bool, List, [], ◌∷◌, length, map, refl, sym, ap, ◌∙◌, subst, arith, Some, None}
use Rattle.std.specs.Prelude.{nat_le}
use Rattle.std.specs.List.{All}
use Rattle.std.specs.Map.{keys_of}
use Rattle.std.proofs.lemmas.Bool.{cond-true, cond-false}
use Rattle.std.proofs.lemmas.List.Elements.{All-tail}
use Rattle.std.proofs.lemmas.Option.{same_Some}
use Rattle.dots.specs.Dot.{DotValue}
use Rattle.dots.specs.Bytes.{MAX_LENGTH}
use Rattle.dots.specs.declared.refusal.Refusal.TheVariants.{TooLong, UnknownReplica}
use Rattle.hash_path.specs.Fnv1a.{fnv1a}
use Rattle.op_model.specs.Meaning.{MapState, Stands, StandsWithin}
use Rattle.op_model.specs.Operation.{Operation, known}
use Rattle.op_model.specs.Place.{place_of, plain}
use Rattle.op_model.specs.Shown.{values, values_of_key, size}
use Rattle.prefix_digest.specs.MapOf.{root_digest}
use Rattle.replica_core.specs.Reading.{Lists}
use Rattle.replica_core.specs.Showing.{ShowsOperations}
use Rattle.replica_world.proofs.Shown.{worlds_show}
use Rattle.replica_model.proofs.Deciding.{worlds_one}
use Rattle.replica_model.specs.World.{World, is_node, nothing, Runs}
use Rattle.trace_words.specs.Command.{CommandValue, Node, Put, Get, Flush, Deliver, Sync, Retry, Abandon, Remove, RemoveField, Clear, Fields, Show, Size}
use Rattle.trace_words.specs.Command.{Context, Pin, Digest, Save, Crash, Look}
use Rattle.trace_words.specs.Text.{values_text, fields_text, map_text, size_text, context_text, digest_text}
use Rattle.trace_world.specs.Laws.{ReadsAreSeen, LooksAreSeen}
use Rattle.trace_world.specs.Outcome.{CommandOutcome, Refused, Done, ReadsValues, ReadsFields, ReadsKeys, ReadsSize, ReadsContext, ReadsDigest, at_replica}
use Rattle.trace_world.specs.Outcome.{with_bytes, LooksAt, Comes}
use Rattle.trace_world.specs.Seen.{if_there, if_short, entries_by, fields_seen, keys_seen, context_seen, read_of}
use Rattle.trace_world.proofs.Compressing.{compressed_vector, compressed_cloud}

-- all that comes is this
abbrev IsJust : (CommandOutcome → Type 0) → CommandOutcome → Type 0
IsJust P told = (o : CommandOutcome) → P o → o ≡ told

there_just : (w : World) (name : ℕ) (P : CommandOutcome → Type 0) (told : CommandOutcome) → IsJust P told → IsJust (at_replica w name P) (if_there w name told)
there_just w name P told just o (inl (none, is)) = is ∙ sym (cond-false (is_node w name) told (Refused UnknownReplica) none)
there_just w name P told just o (inr (there, comes)) = just o comes ∙ sym (cond-true (is_node w name) told (Refused UnknownReplica) there)

short_just : (bytes : List ℕ) (P : CommandOutcome → Type 0) (told : CommandOutcome) → IsJust P told → IsJust (with_bytes bytes P) (if_short bytes told)
short_just bytes P told just o (inl (long, is)) = is ∙ sym (cond-false (nat_le (length bytes) MAX_LENGTH) told (Refused TooLong) long)
short_just bytes P told just o (inr (short, comes)) = just o comes ∙ sym (cond-true (nat_le (length bytes) MAX_LENGTH) told (Refused TooLong) short)

-- entries whose values are told by their labels
entries_are : (at : List ℕ → List (List ℕ)) (entries : List (List ℕ × List (List ℕ))) → All (λ e. e.1 ≡ at e.0) entries
    → entries ≡ entries_by at (keys_of entries)
entries_are at [] all = refl
entries_are at (e ∷ es) all =
    let rest = entries_are at es (All-tail (λ e. e.1 ≡ at e.0) e es all) in
    let first : e.1 ≡ at e.0 = all 0 e (omega arith) in
    (λ i. (e.0, first i) ∷ rest i)

all_are : (P : List ℕ → List ℕ → Type 0) (at : List ℕ → List (List ℕ)) → ((label : List ℕ) (found : List (List ℕ)) → Lists (P label) found → found ≡ at label)
    → (entries : List (List ℕ × List (List ℕ)))
    → All (λ e. Lists (P e.0) e.1) entries → All (λ e. e.1 ≡ at e.0) entries
all_are P at is [] all k d l = absurd (omega (arith, l))
all_are P at is (e ∷ es) all k d l = all_map_here (all k d l)
  where
    all_map_here : {x : List ℕ × List (List ℕ)} → Lists (P x.0) x.1 → x.1 ≡ at x.0
    all_map_here {x} lists = is x.0 x.1 lists

module _ (live : MapState) (S : List Operation) (shows : ShowsOperations fnv1a live S) where
  values_just : (key field : List ℕ) → IsJust (ReadsValues (place_of key field) live) (Done (values_text (values S (place_of key field))) [])
  values_just key field o (found, lists, is) = is ∙ ap (λ f. Done (values_text f) []) (shows.values (place_of key field) found lists)

  fields_just : (key : List ℕ) → IsJust (ReadsFields key live) (Done (fields_seen S key) [])
  fields_just key o (entries, lists, all, is) =
      let labels = shows.fields key (keys_of entries) lists in
      let at : List ℕ → List (List ℕ) = λ field. values S (place_of key field) in
      let same = entries_are at entries (all_are (λ field. Stands live (place_of key field)) at
      (λ field found there. shows.values (place_of key field) found there) entries all) in
      is ∙ ap (λ es. Done (fields_text es) []) (same ∙ ap (entries_by at) labels)

  keys_just : IsJust (ReadsKeys live) (Done (keys_seen S) [])
  keys_just o (entries, lists, all, is) =
      let labels = shows.keys (keys_of entries) lists in
      let same = entries_are (values_of_key S) entries (all_are (StandsWithin live) (values_of_key S) (λ key found there. shows.values_of_key key found there)
      entries all) in
      is ∙ ap (λ es. Done (map_text es) []) (same ∙ ap (entries_by (values_of_key S)) labels)

  size_just : IsJust (ReadsSize live) (Done (size_text (size S)) [])
  size_just o (found, lists, is) = is ∙ ap (λ n. Done (size_text n) []) (shows.size found lists)

  context_just : IsJust (ReadsContext live) (Done (context_seen S) [])
  context_just o (context, canonical, dots, is) =
      let same = λ (d : DotValue). ap (λ (f : DotValue → Bool). f d) (dots ∙ shows.known) in
      is ∙ (λ i. Done (context_text (compressed_vector context canonical (known S) same i) (compressed_cloud context canonical (known S) same i)) [])

  digest_just : IsJust (ReadsDigest fnv1a live) (Done (digest_text (root_digest fnv1a S)) [])
  digest_just o (map, is_map, is) = is ∙ ap (λ d. Done (digest_text d) []) (shows.digest map is_map)

told_none : (o told : CommandOutcome) → None ≡ Some told → o ≡ told
told_none o told is = absurd cc

pub reads_seen : ReadsAreSeen
reads_seen events w runs clean pins c outcome told = by c
  where
    shown : (name : ℕ) → ShowsOperations fnv1a (w.replica name).live (w.seen name)
    shown name = worlds_show fnv1a events w runs clean name

    by : (c : CommandValue) → read_of w c ≡ Some told → Comes fnv1a w pins c outcome → outcome ≡ told
    by (Get name key field) is comes =
        there_just w name _ _ (short_just key _ _ (short_just field _ _ (values_just (w.replica name).live (w.seen name) (shown name) key field))) outcome comes
        ∙ same_Some _ _ is
    by (Fields name key) is comes = there_just w name _ _ (short_just key _ _ (fields_just (w.replica name).live (w.seen name) (shown name) key)) outcome comes
        ∙ same_Some _ _ is
    by (Show name) is comes = there_just w name _ _ (keys_just (w.replica name).live (w.seen name) (shown name)) outcome comes ∙ same_Some _ _ is
    by (Size name) is comes = there_just w name _ _ (size_just (w.replica name).live (w.seen name) (shown name)) outcome comes ∙ same_Some _ _ is
    by (Context name) is comes = there_just w name _ _ (context_just (w.replica name).live (w.seen name) (shown name)) outcome comes ∙ same_Some _ _ is
    by (Digest name) is comes = there_just w name _ _ (digest_just (w.replica name).live (w.seen name) (shown name)) outcome comes ∙ same_Some _ _ is
    by (Node name) is comes = told_none outcome told is
    by (Put name key field value) is comes = told_none outcome told is
    by (Flush name) is comes = told_none outcome told is
    by (Deliver number name) is comes = told_none outcome told is
    by (Sync name peer) is comes = told_none outcome told is
    by (Retry name number) is comes = told_none outcome told is
    by (Abandon name number) is comes = told_none outcome told is
    by (Remove name key) is comes = told_none outcome told is
    by (RemoveField name key field) is comes = told_none outcome told is
    by (Clear name) is comes = told_none outcome told is
    by (Save name) is comes = told_none outcome told is
    by (Crash name) is comes = told_none outcome told is
    by (Pin name) is comes = told_none outcome told is
    by (Look pin key) is comes = told_none outcome told is

pub looks_seen : LooksAreSeen
looks_seen w pins number key pin then there runs clean outcome comes =
    by (subst (λ p. LooksAt fnv1a p key outcome) there comes)
  where
    shown : ShowsOperations fnv1a (then.replica pin.name).live (then.seen pin.name)
    shown = worlds_show fnv1a pin.events then runs clean pin.name

    told : CommandOutcome
    told = Done (values_text (values (then.seen pin.name) (plain key))) []

    just : IsJust (λ o. (u : World) × Runs fnv1a nothing pin.events u × ReadsValues (plain key) (u.replica pin.name).live o) told
    just o (u, again, reads) =
        let same = worlds_one fnv1a pin.events u then again runs in
        values_just (then.replica pin.name).live (then.seen pin.name) shown key [] o
        (subst (λ (x : World). ReadsValues (plain key) (x.replica pin.name).live o) same reads)

    by : LooksAt fnv1a (Some pin) key outcome → outcome ≡ if_short key told
    by at = short_just key _ told just outcome at
