-- A write is told by what its replica has seen, and a flush by what it is to send.
use Rattle.std.proofs.Common.{◌≡◌, inl, inr, ℕ, suc, ◌+◌, List, [], ◌∷◌, ◌++◌, length, drop, map, refl, ap, ◌∙◌, arith, Some, None}
use Rattle.std.specs.Prelude.{codes}
use Rattle.std.proofs.lemmas.List.{append-nil}
use Rattle.std.proofs.lemmas.Option.{same_Some}
use Rattle.std.proofs.Math.Seq.{drop-append_seam}
use Rattle.hash_path.specs.Fnv1a.{fnv1a}
use Rattle.op_model.specs.Made.{dot_at, removed_at, field_removed_at, cleared_at}
use Rattle.op_model.specs.Operation.{Operation}
use Rattle.op_model.specs.Place.{place_of}
use Rattle.replica_model.specs.Crashing.{Occurrence}
use Rattle.replica_model.specs.Answers.{answer_by, flushed_by, IsToldBy}
use Rattle.replica_model.specs.Replica.{Kept}
use Rattle.replica_model.specs.Step.{Answer, Made, Counted}
use Rattle.replica_model.specs.Step as step
use Rattle.replica_model.specs.World.{World, Event, Happens, goes, calls, sent_as}
use Rattle.replica_model.specs.World as world
use Rattle.wire_form.specs.Session.{SessionValue}
use Rattle.replica_model.proofs.Answers.{calls_are_told}
use Rattle.trace_words.specs.Command.{CommandValue, Node, Put, Get, Flush, Deliver, Sync, Retry, Abandon, Remove, RemoveField, Clear, Fields, Show, Size}
use Rattle.trace_words.specs.Command.{Context, Pin, Digest, Save, Crash, Look}
use Rattle.trace_words.specs.Text.{message_text}
use Rattle.trace_words.specs.declared.kind.Kind.TheVariants.{Delta}
use Rattle.trace_world.specs.Laws.{WritesAreSeen}
use Rattle.trace_world.specs.Outcome.{CommandOutcome, Refused, Done, Pinned, at_replica, with_bytes, IsEvent, IsCall, Comes}
use Rattle.trace_world.specs.Seen.{flush_seen, written_of}
use Rattle.trace_world.specs.Told.{flush_text, happened_text, told_text}

-- what is done was not refused
abbrev text_of : CommandOutcome → List ℕ
text_of (Done text events) = text
text_of (Refused refusal) = []
text_of (Pinned text name) = []

at_done : (w : World) (name : ℕ) (P : CommandOutcome → Type 0) (text : List ℕ) (more : List Occurrence) → at_replica w name P (Done text more)
    → P (Done text more)
at_done w name P text more (inl (none, is)) = absurd cc
at_done w name P text more (inr (there, comes)) = comes

bytes_done : (bytes : List ℕ) (P : CommandOutcome → Type 0) (text : List ℕ) (more : List Occurrence) → with_bytes bytes P (Done text more) → P (Done text more)
bytes_done bytes P text more (inl (long, is)) = absurd cc
bytes_done bytes P text more (inr (short, comes)) = comes

event_done : (w : World) (e : Event) (text : List ℕ) (more : List Occurrence) → IsEvent fnv1a w e (Done text more) → (answer : Answer) × (v : World)
    × Happens fnv1a w e answer v × (text ≡ happened_text e answer w v)
event_done w e text more (inl (answer, v, happens, is)) = (answer, v, happens, ap text_of is)
event_done w e text more (inr (refusal, refuses, is)) = absurd cc

-- the text of a flush
flush_is : (group : List Operation) (kept : SessionValue → List Operation) (ks : List Kept) (number : ℕ) (S : List Operation)
    → flush_text number (map (sent_as group kept ks) (flushed_by S)) ≡ flush_seen S number
flush_is group kept ks number [] = refl
flush_is group kept ks number (o ∷ S) = ap (λ t. codes "sent" ++ t) (append-nil (message_text number Delta))

module _ (w : World) (name : ℕ) (told : IsToldBy fnv1a (w.replica name) name (w.seen name) (w.outgoing name)) (text : List ℕ) (more : List Occurrence) where
  call_is : (call : step.Call) (answer : Answer) → answer_by (w.seen name) name call ≡ Some answer → IsCall fnv1a w name call (Done text more)
      → (v : World) × (text ≡ told_text answer (length w.messages + 1) (drop (length w.messages) v.messages))
  call_is call answer by comes =
      let done = event_done w (world.At name call) text more comes in
      let goes = done.2.2 in
      let same = told.calls call goes.0 done.0 goes.1 goes.2 answer by in
      (done.1, done.3 ∙ ap (λ a. told_text a (length w.messages + 1) (drop (length w.messages) done.1.messages)) same)

  flush_told : IsCall fnv1a w name step.Flush (Done text more) → text ≡ flush_seen (w.outgoing name) (suc (length w.messages))
  flush_told comes =
      let done = event_done w (world.At name step.Flush) text more comes in
      let gone = done.2.2 in
      let sends = sent_as (w.outgoing name) w.kept gone.0.kept in
      let number = length w.messages + 1 in
      let suc_is : number ≡ suc (length w.messages) = omega arith in
      let made : drop (length w.messages) done.1.messages ≡ map sends (flushed_by (w.outgoing name)) =
      ap (λ (v : World). drop (length w.messages) v.messages) gone.3 ∙ drop-append_seam w.messages (map sends gone.1)
      ∙ ap (map sends) (told.flushes gone.0 done.0 gone.1 gone.2) in
      done.3
      ∙ ap (λ a. told_text a number (drop (length w.messages) done.1.messages)) gone.2.0
      ∙ ap (flush_text number) made
      ∙ flush_is (w.outgoing name) w.kept gone.0.kept number (w.outgoing name)
      ∙ ap (flush_seen (w.outgoing name)) suc_is

told_none : (text told : List ℕ) → None ≡ Some told → text ≡ told
told_none text told is = absurd cc

pub writes_seen : WritesAreSeen
writes_seen events w runs clean pins c text told more = by c
  where
    tells : (name : ℕ) → IsToldBy fnv1a (w.replica name) name (w.seen name) (w.outgoing name)
    tells name = calls_are_told fnv1a events w runs clean name

    by : (c : CommandValue) → written_of w c ≡ Some told → Comes fnv1a w pins c (Done text more) → text ≡ told
    by (Put name key field value) is comes =
        let last = IsCall fnv1a w name (step.Put (place_of key field) value) in
        let call = bytes_done value last text more
        (bytes_done field (with_bytes value last) text more
        (bytes_done key (with_bytes field (with_bytes value last)) text more
        (at_done w name (with_bytes key (with_bytes field (with_bytes value last))) text more comes))) in
        (call_is w name (tells name) text more (step.Put (place_of key field) value) (Made (dot_at (w.seen name) name)) refl call).1 ∙ same_Some _ _ is
    by (Remove name key) is comes =
        let last = IsCall fnv1a w name (step.Remove key) in
        let call = bytes_done key last text more (at_done w name (with_bytes key last) text more comes) in
        (call_is w name (tells name) text more (step.Remove key) (Counted (removed_at (w.seen name) key)) refl call).1 ∙ same_Some _ _ is
    by (RemoveField name key field) is comes =
        let last = IsCall fnv1a w name (step.RemoveField (place_of key field)) in
        let call = bytes_done field last text more
        (bytes_done key (with_bytes field last) text more
        (at_done w name (with_bytes key (with_bytes field last)) text more comes)) in
        (call_is w name (tells name) text more (step.RemoveField (place_of key field)) (Counted (field_removed_at (w.seen name) (place_of key field)))
        refl call).1 ∙ same_Some _ _ is
    by (Clear name) is comes = (call_is w name (tells name) text more step.Clear (Counted (cleared_at (w.seen name))) refl comes).1 ∙ same_Some _ _ is
    by (Flush name) is comes = flush_told w name (tells name) text more comes ∙ same_Some _ _ is
    by (Node name) is comes = told_none text told is
    by (Get name key field) is comes = told_none text told is
    by (Deliver number name) is comes = told_none text told is
    by (Sync name peer) is comes = told_none text told is
    by (Retry name number) is comes = told_none text told is
    by (Abandon name number) is comes = told_none text told is
    by (Fields name key) is comes = told_none text told is
    by (Show name) is comes = told_none text told is
    by (Size name) is comes = told_none text told is
    by (Context name) is comes = told_none text told is
    by (Save name) is comes = told_none text told is
    by (Crash name) is comes = told_none text told is
    by (Pin name) is comes = told_none text told is
    by (Digest name) is comes = told_none text told is
    by (Look pin key) is comes = told_none text told is
