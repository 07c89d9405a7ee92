-- A command comes to one outcome, and a line has one answer.
use Rattle.std.proofs.Common.{◌≡◌, inl, inr, ℕ, ◌+◌, Bool, List, [], ◌∷◌, length, map, refl, sym, ap, subst, ◌∙◌, arith, Option, Some, None}
use Rattle.std.specs.List.{All}
use Rattle.std.specs.Map.{keys_of}
use Rattle.std.proofs.lemmas.Bool.{false≢true}
use Rattle.std.proofs.lemmas.List.Elements.{All-tail}
use Rattle.causal_context.specs.Context.{ContextValue}
use Rattle.causal_context.proofs.Forms.{one_form}
use Rattle.dots.specs.Dot.{DotValue}
use Rattle.dots.specs.declared.refusal.Refusal.{Refusal}
use Rattle.hash_path.specs.Fnv1a.{fnv1a}
use Rattle.op_model.specs.Meaning.{MapState, Stands, StandsWithin, HoldsField, HoldsKey}
use Rattle.op_model.specs.Place.{Place, place_of, plain}
use Rattle.op_model.proofs.Ascending.{one_ascending}
use Rattle.prefix_digest.specs.Page.{digest_at}
use Rattle.prefix_digest.proofs.MapsOf.{maps_one}
use Rattle.replica_core.specs.Reading.{Lists}
use Rattle.replica_model.specs.Crashing.{Saves, Crashes}
use Rattle.replica_model.specs.Replica.{Replica}
use Rattle.replica_model.specs.Step as step
use Rattle.replica_model.specs.Step.{Refuses}
use Rattle.replica_model.specs.World as world
use Rattle.replica_model.specs.World.{World, Event, nothing, RefusesEvent, Runs}
use Rattle.replica_model.proofs.Deciding.{events_one, worlds_one, refused_not}
use Rattle.std.specs.Prelude.{codes}
use Rattle.replica_world.specs.Held.{events_of}
use Rattle.trace_words.specs.Command.{CommandValue, Node, Put, Get, Flush, Deliver, Sync, Retry, Abandon, Remove, RemoveField, Clear, Fields, Show, Size}
use Rattle.trace_words.specs.Command.{Context, Pin, Digest, Save, Crash, Look, command_of}
use Rattle.trace_words.specs.Text.{values_text, fields_text, map_text, size_text, context_text, digest_text, pin_text}
use Rattle.trace_world.specs.Laws.{AnswersAreOne}
use Rattle.trace_world.specs.Line.{Past, LineComes, answer_by, past_by}
use Rattle.trace_world.specs.Outcome.{CommandOutcome, Refused, Done, occurs, Pinned, PinValue, ReadsValues, ReadsFields, ReadsKeys, ReadsSize, ReadsContext}
use Rattle.trace_world.specs.Outcome.{ReadsDigest, at_replica, with_bytes, pin_at, IsEvent, LooksAt, Comes}
use Rattle.trace_world.specs.Told.{happened_text}

-- one outcome at most is as P says
abbrev IsOne : (CommandOutcome → Type 0) → Type 0
IsOne P = (o o' : CommandOutcome) → P o → P o' → o ≡ o'

pub lists_one : (P : List ℕ → Type 0) (xs ys : List (List ℕ)) → Lists P xs → Lists P ys → xs ≡ ys
lists_one P xs ys first second = one_ascending xs ys first.ascending second.ascending (λ z there. (second.just z).1 ((first.just z).0 there))
    (λ z there. (first.just z).1 ((second.just z).0 there))

-- entries with the same labels, whose values are each a list of the same
entries_one : (P : List ℕ → List ℕ → Type 0) (xs ys : List (List ℕ × List (List ℕ))) → keys_of xs ≡ keys_of ys → All (λ e. Lists (P e.0) e.1) xs
    → All (λ e. Lists (P e.0) e.1) ys → xs ≡ ys
entries_one P [] [] same first second = refl
entries_one P [] (y ∷ ys) same first second = absurd cc
entries_one P (x ∷ xs) [] same first second = absurd cc
entries_one P (x ∷ xs) (y ∷ ys) same first second =
    let label : x.0 ≡ y.0 = ap (head x.0) same in
    let rest = entries_one P xs ys (ap tail same) (All-tail (λ e. Lists (P e.0) e.1) x xs first) (All-tail (λ e. Lists (P e.0) e.1) y ys second) in
    let values : x.1 ≡ y.1 = lists_one (P x.0) x.1 y.1 (first 0 x (omega arith)) (subst (λ l. Lists (P l) y.1) (sym label) (second 0 y (omega arith))) in
    (λ i. (label i, values i) ∷ rest i)
  where
    head : List ℕ → List (List ℕ) → List ℕ
    head d [] = d
    head d (l ∷ ls) = l

    tail : List (List ℕ) → List (List ℕ)
    tail [] = []
    tail (l ∷ ls) = ls

values_one : (place : Place) (live : MapState) → IsOne (ReadsValues place live)
values_one place live o o' (found, lists, is) (found', lists', is') = is
    ∙ ap (λ f. Done (values_text f) []) (lists_one (Stands live place) found found' lists lists') ∙ sym is'

fields_one : (key : List ℕ) (live : MapState) → IsOne (ReadsFields key live)
fields_one key live o o' (entries, lists, all, is) (entries', lists', all', is') =
    let labels = lists_one (HoldsField live key) (keys_of entries) (keys_of entries') lists lists' in
    is ∙ ap (λ es. Done (fields_text es) []) (entries_one (λ field. Stands live (place_of key field)) entries entries' labels all all') ∙ sym is'

keys_one : (live : MapState) → IsOne (ReadsKeys live)
keys_one live o o' (entries, lists, all, is) (entries', lists', all', is') =
    let labels = lists_one (HoldsKey live) (keys_of entries) (keys_of entries') lists lists' in
    is ∙ ap (λ es. Done (map_text es) []) (entries_one (StandsWithin live) entries entries' labels all all') ∙ sym is'

size_one : (live : MapState) → IsOne (ReadsSize live)
size_one live o o' (found, lists, is) (found', lists', is') = is ∙ ap (λ f. Done (size_text (length f)) [])
    (lists_one (HoldsKey live) found found' lists lists') ∙ sym is'

context_one : (live : MapState) → IsOne (ReadsContext live)
context_one live o o' (c, canonical, dots, is) (c', canonical', dots', is') =
    let same : c ≡ c' = one_form c c' canonical canonical' (λ d. ap (λ (f : DotValue → Bool). f d) (dots ∙ sym dots')) in
    is ∙ ap (λ (c : ContextValue). Done (context_text c.vector c.cloud) []) same ∙ sym is'

digest_one : (live : MapState) → IsOne (ReadsDigest fnv1a live)
digest_one live o o' (map, is_map, is) (map', is_map', is') = is ∙ ap (λ m. Done (digest_text (digest_at fnv1a m [])) [])
    (maps_one map map' live is_map is_map') ∙ sym is'

-- at a replica, and with bytes
at_one : (w : World) (name : ℕ) (P : CommandOutcome → Type 0) → IsOne P → IsOne (at_replica w name P)
at_one w name P one o o' (inl (none, is)) (inl (none', is')) = is ∙ sym is'
at_one w name P one o o' (inl (none, is)) (inr (there, comes)) = absurd (false≢true (sym none ∙ there))
at_one w name P one o o' (inr (there, comes)) (inl (none, is)) = absurd (false≢true (sym none ∙ there))
at_one w name P one o o' (inr (there, comes)) (inr (there', comes')) = one o o' comes comes'

with_one : (bytes : List ℕ) (P : CommandOutcome → Type 0) → IsOne P → IsOne (with_bytes bytes P)
with_one bytes P one o o' (inl (long, is)) (inl (long', is')) = is ∙ sym is'
with_one bytes P one o o' (inl (long, is)) (inr (short, comes)) = absurd (false≢true (sym long ∙ short))
with_one bytes P one o o' (inr (short, comes)) (inl (long, is)) = absurd (false≢true (sym long ∙ short))
with_one bytes P one o o' (inr (short, comes)) (inr (short', comes')) = one o o' comes comes'

-- a call is refused in one way
refuses_one : (r : Replica) (c : step.Call) (x y : Refusal) → Refuses r c x → Refuses r c y → x ≡ y
refuses_one r (step.Put place value) x y (dot, next, spent, is) (dot', next', spent', is') = is ∙ sym is'
refuses_one r (step.Remove key) x y first second = absurd first
refuses_one r (step.RemoveField place) x y first second = absurd first
refuses_one r step.Clear x y first second = absurd first
refuses_one r step.Flush x y first second = absurd first
refuses_one r (step.Ask peer) x y (inl (full, is)) (inl (full', is')) = is ∙ sym is'
refuses_one r (step.Ask peer) x y (inl (full, is)) (inr (few, spent, is')) = absurd (omega (arith, full, few))
refuses_one r (step.Ask peer) x y (inr (few, spent, is)) (inl (full, is')) = absurd (omega (arith, full, few))
refuses_one r (step.Ask peer) x y (inr (few, spent, is)) (inr (few', spent', is')) = is ∙ sym is'
refuses_one r (step.Retry number) x y first second = absurd first
refuses_one r (step.Abandon number) x y first second = absurd first
refuses_one r step.Restart x y first second = absurd first

event_refused_one : (w : World) (e : Event) (x y : Refusal) → RefusesEvent w e x → RefusesEvent w e y → x ≡ y
event_refused_one w (world.Node name) x y (there, is) (there', is') = is ∙ sym is'
event_refused_one w (world.At name c) x y (inl (none, is)) (inl (none', is')) = is ∙ sym is'
event_refused_one w (world.At name c) x y (inl (none, is)) (inr (there, rest)) = absurd (false≢true (sym none ∙ there))
event_refused_one w (world.At name c) x y (inr (there, rest)) (inl (none, is)) = absurd (false≢true (sym none ∙ there))
event_refused_one w (world.At name c) x y (inr (there, inl (none, is))) (inr (there', inl (none', is'))) = is ∙ sym is'
event_refused_one w (world.At name c) x y (inr (there, inl (none, is))) (inr (there', inr (peer, refuses))) = absurd (false≢true (sym none ∙ peer))
event_refused_one w (world.At name c) x y (inr (there, inr (peer, refuses))) (inr (there', inl (none, is))) = absurd (false≢true (sym none ∙ peer))
event_refused_one w (world.At name c) x y (inr (there, inr (peer, refuses))) (inr (there', inr (peer', refuses'))) =
    refuses_one (w.replica name) c x y refuses refuses'
event_refused_one w (world.Deliver number name) x y (inl (none, is)) (inl (none', is')) = is ∙ sym is'
event_refused_one w (world.Deliver number name) x y (inl (none, is)) (inr (there, absent, is')) = absurd (false≢true (sym none ∙ there))
event_refused_one w (world.Deliver number name) x y (inr (there, none, is)) (inl (absent, is')) = absurd (false≢true (sym absent ∙ there))
event_refused_one w (world.Deliver number name) x y (inr (there, none, is)) (inr (there', none', is')) = is ∙ sym is'

event_one : (w : World) (e : Event) → IsOne (IsEvent fnv1a w e)
event_one w e o o' (inl (answer, v, happens, is)) (inl (answer', v', happens', is')) =
    let same = events_one fnv1a w v v' e answer answer' happens happens' in
    is ∙ (λ i. Done (happened_text e (same.0 i) w (same.1 i)) (occurs e (same.0 i) w (same.1 i) ∷ [])) ∙ sym is'
event_one w e o o' (inl (answer, v, happens, is)) (inr (refusal, refuses, is')) = absurd (refused_not fnv1a w v e answer refusal refuses happens)
event_one w e o o' (inr (refusal, refuses, is)) (inl (answer, v, happens, is')) = absurd (refused_not fnv1a w v e answer refusal refuses happens)
event_one w e o o' (inr (refusal, refuses, is)) (inr (refusal', refuses', is')) = is
    ∙ ap Refused (event_refused_one w e refusal refusal' refuses refuses') ∙ sym is'

call_one : (w : World) (name : ℕ) (c : step.Call) → IsOne (IsEvent fnv1a w (world.At name c))
call_one w name c = event_one w (world.At name c)

-- a look at a pin
look_one : (pin : Option PinValue) (key : List ℕ) → IsOne (LooksAt fnv1a pin key)
look_one None key o o' is is' = is ∙ sym is'
look_one (Some pin) key o o' is is' = with_one key (λ o. (w : World) × Runs fnv1a nothing pin.events w × ReadsValues (plain key) (w.replica pin.name).live o)
    one o o' is is'
  where
    one : IsOne (λ o. (w : World) × Runs fnv1a nothing pin.events w × ReadsValues (plain key) (w.replica pin.name).live o)
    one o o' (w, runs, reads) (v, runs', reads') =
        let same = worlds_one fnv1a pin.events v w runs' runs in
        values_one (plain key) (w.replica pin.name).live o o' reads (subst (λ (u : World). ReadsValues (plain key) (u.replica pin.name).live o') same reads')

comes_one : (w : World) (pins : List PinValue) (c : CommandValue) → IsOne (Comes fnv1a w pins c)
comes_one w pins (Node name) o o' = event_one w (world.Node name) o o'
comes_one w pins (Put name key field value) o o' =
    at_one w name _ (with_one key _ (with_one field _ (with_one value _ (call_one w name (step.Put (place_of key field) value))))) o o'
comes_one w pins (Get name key field) o o' = at_one w name _ (with_one key _ (with_one field _ (values_one (place_of key field) (w.replica name).live))) o o'
comes_one w pins (Flush name) o o' = call_one w name step.Flush o o'
comes_one w pins (Deliver number name) o o' = event_one w (world.Deliver number name) o o'
comes_one w pins (Sync name peer) o o' = call_one w name (step.Ask peer) o o'
comes_one w pins (Retry name number) o o' = call_one w name (step.Retry number) o o'
comes_one w pins (Abandon name number) o o' = call_one w name (step.Abandon number) o o'
comes_one w pins (Remove name key) o o' = at_one w name _ (with_one key _ (call_one w name (step.Remove key))) o o'
comes_one w pins (RemoveField name key field) o o' =
    at_one w name _ (with_one key _ (with_one field _ (call_one w name (step.RemoveField (place_of key field))))) o o'
comes_one w pins (Clear name) o o' = call_one w name step.Clear o o'
comes_one w pins (Fields name key) o o' = at_one w name _ (with_one key _ (fields_one key (w.replica name).live)) o o'
comes_one w pins (Show name) o o' = at_one w name _ (keys_one (w.replica name).live) o o'
comes_one w pins (Size name) o o' = at_one w name _ (size_one (w.replica name).live) o o'
comes_one w pins (Context name) o o' = at_one w name _ (context_one (w.replica name).live) o o'
comes_one w pins (Save name) o o' = at_one w name (λ p. p ≡ Done (codes "ok") (Saves name ∷ [])) (λ p p' is is'. is ∙ sym is') o o'
comes_one w pins (Crash name) o o' = at_one w name (λ p. p ≡ Done (codes "ok") (Crashes name ∷ [])) (λ p p' is is'. is ∙ sym is') o o'
comes_one w pins (Digest name) o o' = at_one w name _ (digest_one (w.replica name).live) o o'
comes_one w pins (Pin name) o o' = at_one w name (λ p. p ≡ Pinned (pin_text (length pins + 1)) name) (λ p p' is is'. is ∙ sym is') o o'
comes_one w pins (Look pin key) o o' = look_one (pin_at pins pin) key o o'

line_one : (past : Past) (c : Option CommandValue) → IsOne (LineComes past c)
line_one past None o o' is is' = is ∙ sym is'
line_one past (Some c) o o' (w, runs, comes) (v, runs', comes') =
    let same = worlds_one fnv1a (events_of past.held) v w runs' runs in
    comes_one w past.pins c o o' comes (subst (λ u. Comes fnv1a u past.pins c o') same comes')

pub answers_one : AnswersAreOne
answers_one past [] answer answer' next next' (a, n) (a', n') = (a ∙ sym a', n ∙ sym n')
answers_one past (byte ∷ bytes) answer answer' next next' (o, comes, a, n) (o', comes', a', n') =
    let same = line_one past (command_of (byte ∷ bytes)) o o' comes comes' in
    (a ∙ ap answer_by same ∙ sym a', n ∙ ap (past_by past) same ∙ sym n')
