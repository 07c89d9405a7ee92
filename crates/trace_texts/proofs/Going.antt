-- A past that what occurred led to goes on: after each outcome of a command there is such a past. So each line is answered.
use Rattle.std.proofs.Common.{◌≡◌, ◌⊎◌, inl, inr, ℕ, ◌+◌, ◌-◌, Bool, true, false, cond, List, [], ◌∷◌, ◌++◌, map, length, Option, Some, None}
use Rattle.std.proofs.Common.{refl, sym, ap, ◌∙◌, subst, arith, length-append}
use Rattle.std.proofs.lemmas.List.{length-map}
use Rattle.std.specs.Prelude.{Contains}
use Rattle.std.proofs.lemmas.List.Elements.{Contains-push_cases}
use Rattle.dots.specs.declared.refusal.Refusal.{Refusal}
use Rattle.dots.specs.declared.refusal.Refusal.TheVariants.{BadLine}
use Rattle.hash_path.specs.Fnv1a.{fnv1a}
use Rattle.op_model.specs.World.{is_among}
use Rattle.op_model.proofs.Members.{nothing_in}
use Rattle.replica_model.specs.Crashing.{Occurrence, Saving, Passing, Saves, Crashes, System, Does, Occurs, Shows, put, started, survivors}
use Rattle.replica_model.specs.Crashing as crashing
use Rattle.replica_model.specs.Happened.{events_in}
use Rattle.replica_model.specs.Laws.{replica_of}
use Rattle.replica_model.specs.Mail.{Mail}
use Rattle.replica_model.specs.Replica.{restarts}
use Rattle.replica_model.specs.Step as step
use Rattle.replica_model.specs.Step.{Answer}
use Rattle.replica_model.specs.World as world
use Rattle.replica_model.specs.World.{World, Event, Message, is_node, nothing, Happens, Runs}
use Rattle.replica_model.proofs.Crashing.{take_back}
use Rattle.replica_model.proofs.Deciding.{worlds_one}
use Rattle.replica_model.proofs.Telling.{leads_run}
use Rattle.replica_world.specs.Held.{events_of, happened_in, after, is_saved_with}
use Rattle.replica_world.proofs.Crashed.{goes_more, held_more, passes, none_out}
use Rattle.replica_world.proofs.Held.{held_survives}
use Rattle.replica_world.proofs.Systems.{Did, did}
use Rattle.trace_words.specs.Answer.{Silent}
use Rattle.trace_words.specs.Command.{CommandValue, Node, Put, Get, Flush, Deliver, Sync, Retry, Abandon, Remove, RemoveField, Clear, Fields, Show, Size}
use Rattle.trace_words.specs.Command.{Context, Pin, Digest, Save, Crash, Look, command_of}
use Rattle.trace_world.specs.Line.{Past, start, answer_by, past_by, LineComes}
use Rattle.trace_world.specs.Outcome.{CommandOutcome, Refused, Done, Pinned, PinValue, at_replica, with_bytes, pin_at, occurs, IsEvent, IsCall, LooksAt, Comes}
use Rattle.trace_texts.specs.Laws.{IsPast, LinesAreAnswered}
use Rattle.trace_texts.proofs.Coming.{commands_come}

-- ---- an event that happened occurs in the system that the world shows

-- as many messages were sent as the world has more
as_many : (ms more : List Message) (said out : List Mail) → map (λ (m : Message). m.mail) ms ≡ said → map (λ (m : Message). m.mail) more ≡ said ++ out
    → length out ≡ length more - length ms
as_many ms more said out was is =
    let before : length ms ≡ length said = sym (length-map ms (λ (m : Message). m.mail)) ∙ ap length was in
    let now : length more ≡ length said + length out = sym (length-map more (λ (m : Message). m.mail)) ∙ ap length is ∙ length-append said out in
    omega (arith, before, now)

event_occurs : (w v : World) (s : System) (e : Event) (answer : Answer) → Shows w s → Happens fnv1a w e answer v → (t : System)
    × Occurs fnv1a s (occurs e answer w v) t
event_occurs w v s e answer shows happens = by (is_saved_with (record { event = e; answer = answer; sent = length v.messages - length w.messages })) refl
  where
    d : Did fnv1a s e answer v
    d = did fnv1a w s shows e answer v happens

    counted : length d.out ≡ length v.messages - length w.messages
    counted = as_many w.messages v.messages s.messages d.out shows.messages d.shows.messages

    by : (b : Bool) → is_saved_with (record { event = e; answer = answer; sent = length v.messages - length w.messages }) ≡ b → (t : System)
        × Occurs fnv1a s (cond b (Saving (record { event = e; answer = answer; sent = length v.messages - length w.messages }))
        (Passing (record { event = e; answer = answer; sent = length v.messages - length w.messages }))) t
    by true is = (
      record (crashing.goes fnv1a s e d.new d.out) { saved = put s.saved (replica_of e) d.new },
      (d.new, d.out, d.does, counted, refl),
    )
    by false is =
        let both = passes (record { event = e; answer = answer; sent = length v.messages - length w.messages }) is in
        let none : d.out ≡ [] = none_out d.out (counted ∙ both.0) in (
          crashing.goes fnv1a s e d.new [],
          (d.new, subst (Does fnv1a s e d.new answer) none d.does, both.0, both.1, refl),
        )

-- ---- pasts

module _ (past : Past) (is : IsPast past) where
  -- the world that it leads to
  leads : (w : World) × Runs fnv1a nothing (events_of past.held) w × Shows w is.system
  leads =
      let back = take_back fnv1a is.occurred is.system is.goes in
      let same : survivors is.occurred ≡ happened_in past.held = sym (held_survives is.occurred) ∙ ap happened_in (sym is.holds) in
      (back.0, subst (λ hs. Runs fnv1a nothing (events_in hs) back.0) same (leads_run fnv1a (survivors is.occurred) nothing back.0 back.1), back.2)

  more_occurs : (x : Occurrence) (t : System) → Occurs fnv1a is.system x t → IsPast (record past { held = after past.held x })
  more_occurs x t occurs = record {
    occurred = is.occurred ++ x ∷ [];
    system = t;
    goes = goes_more fnv1a started is.occurred is.system x t is.goes occurs;
    holds = ap (λ hs. after hs x) is.holds ∙ sym (held_more [] is.occurred x);
    pins = is.pins;
  }

  as_it_was : IsPast (record past { held = past.held })
  as_it_was = record { occurred = is.occurred; system = is.system; goes = is.goes; holds = is.holds; pins = is.pins }

  module _ (w : World) (runs : Runs fnv1a nothing (events_of past.held) w) where
    shows : Shows w is.system
    shows = subst (λ u. Shows u is.system) (worlds_one fnv1a (events_of past.held) leads.0 w leads.1 runs) leads.2

    -- what an outcome leads to
    abbrev GoesOn : CommandOutcome → Type 0
    GoesOn outcome = IsPast (past_by past outcome)

    abbrev AllGoOn : (CommandOutcome → Type 0) → Type 0
    AllGoOn P = (outcome : CommandOutcome) → P outcome → GoesOn outcome

    refused : (refusal : Refusal) (outcome : CommandOutcome) → outcome ≡ Refused refusal → GoesOn outcome
    refused refusal outcome e = subst GoesOn (sym e) is

    was_read : (text : List ℕ) (outcome : CommandOutcome) → outcome ≡ Done text [] → GoesOn outcome
    was_read text outcome e = subst GoesOn (sym e) as_it_was

    did_occur : (text : List ℕ) (x : Occurrence) (t : System) → Occurs fnv1a is.system x t → (outcome : CommandOutcome) → outcome ≡ Done text (x ∷ [])
        → GoesOn outcome
    did_occur text x t occurs outcome e = subst GoesOn (sym e) (more_occurs x t occurs)

    there_goes : (name : ℕ) (P : CommandOutcome → Type 0) → (is_node w name ≡ true → AllGoOn P) → AllGoOn (at_replica w name P)
    there_goes name P all outcome (inl (none, e)) = refused _ outcome e
    there_goes name P all outcome (inr (there, p)) = all there outcome p

    short_goes : (bytes : List ℕ) (P : CommandOutcome → Type 0) → AllGoOn P → AllGoOn (with_bytes bytes P)
    short_goes bytes P all outcome (inl (long, e)) = refused _ outcome e
    short_goes bytes P all outcome (inr (short, p)) = all outcome p

    event_goes : (e : Event) → AllGoOn (IsEvent fnv1a w e)
    event_goes e outcome (inl (answer, v, happens, told)) =
        let o = event_occurs w v is.system e answer shows happens in did_occur _ (occurs e answer w v) o.0 o.1 outcome told
    event_goes e outcome (inr (refusal, refuses, told)) = refused refusal outcome told

    call_goes : (name : ℕ) (call : step.Call) → AllGoOn (IsCall fnv1a w name call)
    call_goes name call = event_goes (world.At name call)

    pinned : (text : List ℕ) (name : ℕ) (outcome : CommandOutcome) → outcome ≡ Pinned text name → GoesOn outcome
    pinned text name outcome e = subst GoesOn (sym e) (record {
      occurred = is.occurred;
      system = is.system;
      goes = is.goes;
      holds = is.holds;
      pins = λ pin h. either pin (Contains-push_cases past.pins (record { name = name; events = events_of past.held }) pin h);
    })
      where
        either : (pin : PinValue) → Contains past.pins pin ⊎ (record { name = name; events = events_of past.held } ≡ pin)
            → (u : World) × Runs fnv1a nothing pin.events u
        either pin (inl h) = is.pins pin h
        either pin (inr same) = subst (λ (p : PinValue). (u : World) × Runs fnv1a nothing p.events u) same (w, runs)

    look_goes : (key : List ℕ) (o : Option PinValue) → AllGoOn (LooksAt fnv1a o key)
    look_goes key None outcome e = refused BadLine outcome e
    look_goes key (Some pin) outcome (inl (long, e)) = refused _ outcome e
    look_goes key (Some pin) outcome (inr (short, (u, then, (found, lists, e)))) = was_read _ outcome e

    pub goes_on : (command : CommandValue) → AllGoOn (Comes fnv1a w past.pins command)
    goes_on (Node name) = event_goes (world.Node name)
    goes_on (Put name key field value) =
        there_goes name _ (λ there. short_goes key _ (short_goes field _ (short_goes value _ (call_goes name _))))
    goes_on (Get name key field) = there_goes name _ (λ there. short_goes key _ (short_goes field _ (λ outcome (found, lists, e). was_read _ outcome e)))
    goes_on (Flush name) = call_goes name step.Flush
    goes_on (Deliver number name) = event_goes (world.Deliver number name)
    goes_on (Sync name peer) = call_goes name (step.Ask peer)
    goes_on (Retry name number) = call_goes name (step.Retry number)
    goes_on (Abandon name number) = call_goes name (step.Abandon number)
    goes_on (Remove name key) = there_goes name _ (λ there. short_goes key _ (call_goes name (step.Remove key)))
    goes_on (RemoveField name key field) = there_goes name _ (λ there. short_goes key _ (short_goes field _ (call_goes name _)))
    goes_on (Clear name) = call_goes name step.Clear
    goes_on (Fields name key) = there_goes name _ (λ there. short_goes key _ (λ outcome (entries, lists, all, e). was_read _ outcome e))
    goes_on (Show name) = there_goes name _ (λ there outcome (entries, lists, all, e). was_read _ outcome e)
    goes_on (Size name) = there_goes name _ (λ there outcome (found, lists, e). was_read _ outcome e)
    goes_on (Context name) = there_goes name _ (λ there outcome (context, canonical, same, e). was_read _ outcome e)
    goes_on (Digest name) = there_goes name _ (λ there outcome (own, of, e). was_read _ outcome e)
    goes_on (Save name) = there_goes name _ (λ there outcome e.
        did_occur _ (Saves name) (record is.system { saved = put is.system.saved name (is.system.replica name) }) refl outcome e)
    goes_on (Crash name) = there_goes name _ (λ there outcome e.
        did_occur _ (Crashes name) (record is.system {
          replica = put is.system.replica name (restarts (is.system.saved name));
          saved = put is.system.saved name (restarts (is.system.saved name));
        }) (ap (λ ns. is_among ns name) (sym shows.nodes) ∙ there, refl) outcome e)
    goes_on (Pin name) = there_goes name _ (λ there outcome e. pinned _ name outcome e)
    goes_on (Look number key) = look_goes key (pin_at past.pins number)

  line_comes : (command : Option CommandValue) → (outcome : CommandOutcome) × LineComes past command outcome × IsPast (past_by past outcome)
  line_comes None = (Refused BadLine, refl, is)
  line_comes (Some command) =
      let w = leads.0 in
      let runs = leads.1 in
      let comes = commands_come (events_of past.held) w runs past.pins is.pins command in
      (comes.0, (w, runs, comes.1), goes_on w runs command comes.0 comes.1)

pub starts : IsPast start
starts = record { occurred = []; system = started; goes = refl; holds = refl; pins = λ pin h. nothing_in pin h }

pub lines_answered : LinesAreAnswered
lines_answered past is [] = (Silent, past, (refl, refl), is)
lines_answered past is (byte ∷ bytes) =
    let comes = line_comes past is (command_of (byte ∷ bytes)) in
    (answer_by comes.0, past_by past comes.0, (comes.0, comes.1, refl, refl), comes.2)
