-- Each command comes to an outcome in every world that a list of events leads to: an event happens or is refused, and a read is of a finite state.
use Rattle.std.proofs.Common.{◌≡◌, ◌⊎◌, inl, inr, ℕ, zero, suc, ◌+◌, Bool, true, false, List, [], ◌∷◌, length, Option, Some, None, refl}
use Rattle.std.specs.Prelude.{Contains, nat_le, codes}
use Rattle.std.proofs.lemmas.Option.{slice_get_within, get_or_from_slice_get}
use Rattle.dots.specs.Bytes.{MAX_LENGTH}
use Rattle.dots.specs.declared.refusal.Refusal.{Refusal}
use Rattle.dots.specs.declared.refusal.Refusal.TheVariants.{TooLong, UnknownReplica, BadLine}
use Rattle.hash_path.specs.Fnv1a.{fnv1a}
use Rattle.op_model.specs.Place.{place_of, plain}
use Rattle.replica_model.specs.Crashing.{Saves, Crashes}
use Rattle.replica_model.specs.Step as step
use Rattle.replica_model.specs.Step.{Answer}
use Rattle.replica_model.specs.World as world
use Rattle.replica_model.specs.World.{World, Event, is_node, nothing, Happens, Runs, RefusesEvent}
use Rattle.replica_model.proofs.Happening.{happen_or_refused}
use Rattle.trace_words.specs.Command.{CommandValue, Node, Put, Get, Flush, Deliver, Sync, Retry, Abandon, Remove, RemoveField, Clear, Fields, Show, Size}
use Rattle.trace_words.specs.Command.{Context, Pin, Digest, Save, Crash, Look}
use Rattle.trace_words.specs.Text.{pin_text}
use Rattle.trace_world.specs.Outcome.{CommandOutcome, Refused, Done, Pinned, PinValue, at_replica, with_bytes, pin_at, occurs, IsEvent, IsCall, LooksAt, Comes}
use Rattle.trace_world.specs.Told.{happened_text}
use Rattle.trace_texts.specs.Laws.{ArePins, CommandsComeTo}
use Rattle.trace_texts.specs.Reads.{IsRead}
use Rattle.trace_texts.proofs.Reading.{replicas_read}

-- it comes to some outcome
abbrev ComesToSome : (CommandOutcome → Type 0) → Type 0
ComesToSome P = (outcome : CommandOutcome) × P outcome

-- ---- at a replica that is there, with bytes that are not too long

there_or_not : (w : World) (name : ℕ) (P : CommandOutcome → Type 0) → ComesToSome P → ComesToSome (at_replica w name P)
there_or_not w name P comes = by (is_node w name) refl
  where
    by : (b : Bool) → is_node w name ≡ b → ComesToSome (at_replica w name P)
    by true there = (comes.0, inr (there, comes.1))
    by false none = (Refused UnknownReplica, inl (none, refl))

short_or_not : (bytes : List ℕ) (P : CommandOutcome → Type 0) → ComesToSome P → ComesToSome (with_bytes bytes P)
short_or_not bytes P comes = by (nat_le (length bytes) MAX_LENGTH) refl
  where
    by : (b : Bool) → nat_le (length bytes) MAX_LENGTH ≡ b → ComesToSome (with_bytes bytes P)
    by true short = (comes.0, inr (short, comes.1))
    by false long = (Refused TooLong, inl (long, refl))

-- a pin that is there is one of them
pin_there : (pins : List PinValue) (number : ℕ) (pin : PinValue) → pin_at pins number ≡ Some pin → Contains pins pin
pin_there pins zero pin e = absurd cc
pin_there pins (suc n) pin e = (n, slice_get_within pins n pin e, get_or_from_slice_get pins n pin pin e)

module _ (events : List Event) (w : World) (runs : Runs fnv1a nothing events w) where
  -- an event
  event_comes : (e : Event) → ComesToSome (IsEvent fnv1a w e)
  event_comes e = by (happen_or_refused fnv1a events w runs e)
    where
      by : ((answer : Answer) × (v : World) × Happens fnv1a w e answer v) ⊎ ((refusal : Refusal) × RefusesEvent w e refusal) → ComesToSome (IsEvent fnv1a w e)
      by (inl (answer, v, happens)) = (Done (happened_text e answer w v) (occurs e answer w v ∷ []), inl (answer, v, happens, refl))
      by (inr (refusal, refuses)) = (Refused refusal, inr (refusal, refuses, refl))

  call_comes : (name : ℕ) (call : step.Call) → ComesToSome (IsCall fnv1a w name call)
  call_comes name call = event_comes (world.At name call)

  read : (name : ℕ) → IsRead fnv1a (w.replica name).live
  read name = replicas_read fnv1a events w runs name

  module _ (pins : List PinValue) (are : ArePins pins) where
    look : (key : List ℕ) (o : Option PinValue) → ((pin : PinValue) → o ≡ Some pin → Contains pins pin) → ComesToSome (LooksAt fnv1a o key)
    look key None among = (Refused BadLine, refl)
    look key (Some pin) among =
        let then = are pin (among pin refl) in
        let values = (replicas_read fnv1a pin.events then.0 then.1 pin.name).values (plain key) in
        short_or_not key _ (values.0, (then.0, then.1, values.1))

    comes : (command : CommandValue) → ComesToSome (Comes fnv1a w pins command)
    comes (Node name) = event_comes (world.Node name)
    comes (Put name key field value) =
        there_or_not w name _ (short_or_not key _ (short_or_not field _ (short_or_not value _ (call_comes name (step.Put (place_of key field) value)))))
    comes (Get name key field) = there_or_not w name _ (short_or_not key _ (short_or_not field _ ((read name).values (place_of key field))))
    comes (Flush name) = call_comes name step.Flush
    comes (Deliver number name) = event_comes (world.Deliver number name)
    comes (Sync name peer) = call_comes name (step.Ask peer)
    comes (Retry name number) = call_comes name (step.Retry number)
    comes (Abandon name number) = call_comes name (step.Abandon number)
    comes (Remove name key) = there_or_not w name _ (short_or_not key _ (call_comes name (step.Remove key)))
    comes (RemoveField name key field) =
        there_or_not w name _ (short_or_not key _ (short_or_not field _ (call_comes name (step.RemoveField (place_of key field)))))
    comes (Clear name) = call_comes name step.Clear
    comes (Fields name key) = there_or_not w name _ (short_or_not key _ ((read name).fields key))
    comes (Show name) = there_or_not w name _ (read name).keys
    comes (Size name) = there_or_not w name _ (read name).size
    comes (Context name) = there_or_not w name _ (read name).context
    comes (Digest name) = there_or_not w name _ (read name).digest
    comes (Save name) = there_or_not w name _ (Done (codes "ok") (Saves name ∷ []), refl)
    comes (Crash name) = there_or_not w name _ (Done (codes "ok") (Crashes name ∷ []), refl)
    comes (Pin name) = there_or_not w name _ (Pinned (pin_text (length pins + 1)) name, refl)
    comes (Look number key) = look key (pin_at pins number) (pin_there pins number)

pub commands_come : CommandsComeTo
commands_come events w runs pins are command = comes events w runs pins are command
