-- Pins: what a pin is, and that pins stay as more events come.
use Rattle.std.specs.Prelude.{◌≡◌, ◌≢◌, ◌⊎◌, ◌+◌, ◌-◌, ℕ, zero, suc, true, cond, List, [], ◌∷◌, ◌++◌, map, length, refl, Option, Some, None, Result, Ok, Err}
use Rattle.std.specs.Prelude.{slice_get, nat_lt}
use Rattle.std.specs.Option.{option_map}
use Rattle.std.proofs.lemmas.Option.{none-some, slice_get_within, get_or_from_slice_get}
use Rattle.std.proofs.Common.{arith, ap, sym, ◌∙◌, inl, inr, subst}
use Rattle.std.proofs.lemmas.Bool.{false≢true, cond-true}
use Rattle.std.proofs.lemmas.Bool.Decides.{nat_tests}
use Rattle.std.proofs.lemmas.List.{map-append}
use Rattle.std.proofs.lemmas.List.Elements.{All-append}
use Rattle.std.specs.declared.vec.Vec.{Vec}
use Rattle.delta_ops.specs.LiveMap.{store_state}
use Rattle.dots.specs.Dot.{DotValue}
use Rattle.dots.specs.declared.refusal.Refusal.{Refusal}
use Rattle.dots.specs.declared.refusal.Refusal.TheVariants.{OutOfMemory, BadLine}
use Rattle.hash_path.specs.Fnv1a.{fnv1a}
use Rattle.op_model.specs.Meaning.{MapState}
use Rattle.op_model.specs.Place.{Place, plain}
use Rattle.replica_model.specs.World.{World, is_node, nothing, Runs}
use Rattle.replica_world.specs.Held.{Held, events_of}
use Rattle.trace_words.specs.Command.{CommandValue, Node, Put, Get, Flush, Deliver, Sync, Retry, Abandon, Remove, RemoveField, Clear, Fields, Show, Size}
use Rattle.trace_words.specs.Command.{Context, Digest, Save, Crash, Look}
use Rattle.trace_words.specs.Command as command
use Rattle.trace_words.specs.Parsed.{command_value}
use Rattle.trace_words.specs.Text.{pin_text}
use Rattle.trace_words.specs.declared.command.Command as parsed
use Rattle.trace_words.specs.declared.command.Command.TheVariants as parsed_command
use Rattle.trace_world.specs.Does.{Does, Brings, In, TellsText}
use Rattle.trace_world.specs.Line.{Past}
use Rattle.trace_world.specs.Outcome.{CommandOutcome, Refused, Done, Pinned, PinValue, Comes, LooksAt, ReadsValues, at_replica, with_bytes, is_at_world, pin_at}
use Rattle.trace_world.specs.Pins.{pinned, pins_of, IsPinned, AllPinned}
use Rattle.trace_world.specs.declared.pin.Pin.{Pin}
use Rattle.trace_world.proofs.Events.{is_memory}

-- a command that speaks of no pin comes to the same after any
world_only : (w : World) (pins : List PinValue) (c : CommandValue) (o : CommandOutcome) → is_at_world c ≡ true → Comes fnv1a w [] c o → Comes fnv1a w pins c o
world_only w pins (Node name) o h comes = comes
world_only w pins (Put name key field value) o h comes = comes
world_only w pins (Get name key field) o h comes = comes
world_only w pins (Flush name) o h comes = comes
world_only w pins (Deliver number name) o h comes = comes
world_only w pins (Sync name peer) o h comes = comes
world_only w pins (Retry name number) o h comes = comes
world_only w pins (Abandon name number) o h comes = comes
world_only w pins (Remove name key) o h comes = comes
world_only w pins (RemoveField name key field) o h comes = comes
world_only w pins (Clear name) o h comes = comes
world_only w pins (Fields name key) o h comes = comes
world_only w pins (Show name) o h comes = comes
world_only w pins (Size name) o h comes = comes
world_only w pins (Context name) o h comes = comes
world_only w pins (Digest name) o h comes = comes
world_only w pins (Save name) o h comes = comes
world_only w pins (Crash name) o h comes = comes
world_only w pins (command.Pin name) o h comes = absurd (false≢true h)
world_only w pins (Look pin key) o h comes = absurd (false≢true h)

get_map : {X Y : Type 0} (f : X → Y) (xs : List X) (n : ℕ) → slice_get (map f xs) n ≡ option_map f (slice_get xs n)
get_map f [] n = refl
get_map f (x ∷ xs) zero = refl
get_map f (x ∷ xs) (suc n) = get_map f xs n

at_number : {X : Type 0} (xs : List X) (n : ℕ) {found : Option X} → found ≡ cond (nat_lt 0 (suc n)) (slice_get xs (suc n - 1)) None → found ≡ slice_get xs n
at_number xs n is =
    let less : nat_lt 0 (suc n) ≡ true = grind (arith, nat_tests) in
    let same : suc n - 1 ≡ n = omega arith in
    is ∙ cond-true (nat_lt 0 (suc n)) (slice_get xs (suc n - 1)) None less ∙ ap (slice_get xs) same

module _ {A : Type 0} where
  -- the past of what is held and these pins
  abbrev past : List Held → List (Pin A) → Past
  past held pins = record { held = held; pins = pins_of pins }

  -- a command at the world, seen with the pins
  pub at_world : (c : CommandValue) (old new : List Held) (pins : List (Pin A)) (r : Result (Vec ℕ A) Refusal) → is_at_world c ≡ true
      → Does (In old (λ w. Comes fnv1a w [] c)) old new r → Brings (In old (λ w. Comes fnv1a w (pins_of pins) c)) (past old pins) (past new pins) r
  at_world c old new pins (Ok text) only (xs, comes, is) = (
    Done text.items xs,
    (λ w runs. world_only w (pins_of pins) c (Done text.items xs) only (comes w runs)),
    refl,
    ap (λ hs. past hs pins) is,
  )
  at_world c old new pins (Err refusal) only (inl memory) = inl memory
  at_world c old new pins (Err refusal) only (inr (comes, same)) =
      inr ((λ w runs. world_only w (pins_of pins) c (Refused refusal) only (comes w runs)), ap (λ hs. past hs pins) same)

  -- a command that is no pin and no look
  pub at_world_command : (given : parsed.Command A) → ((name : ℕ) → given ≡ parsed_command.Pin name → ⊥)
      → ((pin : ℕ) (key : Vec ℕ A) → given ≡ parsed_command.Look pin key → ⊥) → is_at_world (command_value given) ≡ true
  at_world_command (parsed_command.Node name) no_pin_is no_look = refl
  at_world_command (parsed_command.Put name key field value) no_pin_is no_look = refl
  at_world_command (parsed_command.Get name key field) no_pin_is no_look = refl
  at_world_command (parsed_command.Flush name) no_pin_is no_look = refl
  at_world_command (parsed_command.Deliver number name) no_pin_is no_look = refl
  at_world_command (parsed_command.Sync name peer) no_pin_is no_look = refl
  at_world_command (parsed_command.Retry name number) no_pin_is no_look = refl
  at_world_command (parsed_command.Abandon name number) no_pin_is no_look = refl
  at_world_command (parsed_command.Remove name key) no_pin_is no_look = refl
  at_world_command (parsed_command.RemoveField name key field) no_pin_is no_look = refl
  at_world_command (parsed_command.Clear name) no_pin_is no_look = refl
  at_world_command (parsed_command.Fields name key) no_pin_is no_look = refl
  at_world_command (parsed_command.Show name) no_pin_is no_look = refl
  at_world_command (parsed_command.Size name) no_pin_is no_look = refl
  at_world_command (parsed_command.Context name) no_pin_is no_look = refl
  at_world_command (parsed_command.Digest name) no_pin_is no_look = refl
  at_world_command (parsed_command.Save name) no_pin_is no_look = refl
  at_world_command (parsed_command.Crash name) no_pin_is no_look = refl
  at_world_command (parsed_command.Pin name) no_pin_is no_look = absurd (no_pin_is name refl)
  at_world_command (parsed_command.Look pin key) no_pin_is no_look = absurd (no_look pin key refl)

  -- what a replica holds, at the world after what is held, kept by a pin
  abbrev pub Holds : List Held → Pin A → Type 0
  Holds held pin = (w : World) → Runs fnv1a nothing (events_of held) w
      → (is_node w pin.name ≡ true) × ((place : Place) (dot : DotValue) → (store_state pin.store).at place dot ≡ (w.replica pin.name).live.at place dot)

  one_pin : (pin : Pin A) → IsPinned pin → AllPinned (pin ∷ [])
  one_pin pin h zero d l = h
  one_pin pin h (suc k) d l = absurd (omega (arith, l))

  -- one more pin
  pub all_more : (held : List Held) (pins : List (Pin A)) (pin : Pin A) → AllPinned pins → pin.past.value ≡ held
      → ((w : World) × Runs fnv1a nothing (events_of held) w) → Holds held pin → AllPinned (pins ++ pin ∷ [])
  all_more held pins pin all value (w, runs) holds = All-append IsPinned pins (pin ∷ []) all
      (one_pin pin (record { world = w; runs = subst (λ hs. Runs fnv1a nothing (events_of hs) w) (sym value) runs; holds = (holds w runs).1 }))

  length_pins : (pins : List (Pin A)) → length (pins_of pins) ≡ length pins
  length_pins [] = refl
  length_pins (pin ∷ pins) = ap suc (length_pins pins)

  pub pin_done : (held : List Held) (pins new : List (Pin A)) (pin : Pin A) (text : Vec ℕ A) (number : ℕ) → pin.past.value ≡ held → Holds held pin
      → new ≡ pins ++ pin ∷ []
      → text.items ≡ pin_text (number + 1) → number ≡ length pins
      → Brings (In held (λ w. at_replica w pin.name (λ o. o ≡ Pinned (pin_text (length (pins_of pins) + 1)) pin.name))) (past held pins)
      (past held new) (Ok text)
  pin_done held pins new pin text number value holds is said numbered = (
    Pinned text.items pin.name,
    (λ w runs. inr ((holds w runs).0, ap (λ t. Pinned t pin.name) (said ∙ ap (λ n. pin_text (n + 1)) (numbered ∙ sym (length_pins pins))))),
    refl,
    ap (past held) is ∙ ap (λ ss. record { held = held; pins = ss })
        (map-append pinned pins (pin ∷ []) ∙ ap (λ hs. pins_of pins ++ record { name = pin.name; events = events_of hs } ∷ []) value),
  )

  -- the pin of a number
  found_pin : (pins : List (Pin A)) (n : ℕ) (pin : Pin A) → Some pin ≡ cond (nat_lt 0 n) (slice_get pins (n - 1)) None
      → pin_at (pins_of pins) n ≡ Some (pinned pin)
  found_pin pins zero pin is = absurd (none-some pin (sym is))
  found_pin pins (suc n) pin is = get_map pinned pins n ∙ ap (option_map pinned) (sym (at_number pins n is))

  no_pin : (pins : List (Pin A)) (n : ℕ) → None ≡ cond (nat_lt 0 n) (slice_get pins (n - 1)) None → pin_at (pins_of pins) n ≡ None
  no_pin pins zero is = refl
  no_pin pins (suc n) is = get_map pinned pins n ∙ ap (option_map pinned) (sym (at_number pins n is))

  is_pinned : (pins : List (Pin A)) (n : ℕ) (pin : Pin A) → AllPinned pins → Some pin ≡ cond (nat_lt 0 n) (slice_get pins (n - 1)) None → IsPinned pin
  is_pinned pins zero pin all is = absurd (none-some pin (sym is))
  is_pinned pins (suc n) pin all is =
      let there : slice_get pins n ≡ Some pin = sym (at_number pins n is) in
      let within = slice_get_within pins n pin there in
      subst IsPinned (get_or_from_slice_get pins n pin pin there) (all n pin within)

  -- a look at a pin that was never made
  pub no_look : (held : List Held) (pins : List (Pin A)) (n : ℕ) (key : List ℕ) → None ≡ cond (nat_lt 0 n) (slice_get pins (n - 1)) None
      → Brings {A = A} (In held (λ w. LooksAt fnv1a (pin_at (pins_of pins) n) key)) (past held pins) (past held pins) (Err BadLine)
  no_look held pins n key none = inr ((λ w runs. subst (λ p. LooksAt fnv1a p key (Refused BadLine)) (sym (no_pin pins n none)) refl), refl)

  module _ (held : List Held) (pin : Pin A) (pinned_is : IsPinned pin) (key : List ℕ) where
    -- what a store tells is what the pin's replica told then
    looked : (o : CommandOutcome)
        → ((live : MapState) → ((place : Place) (dot : DotValue) → (store_state pin.store).at place dot ≡ live.at place dot)
        → with_bytes key (ReadsValues (plain key) live) o)
        → LooksAt fnv1a (Some (pinned pin)) key o
    looked o tells = by (tells (pinned_is.world.replica pin.name).live pinned_is.holds)
      where
        by : with_bytes key (ReadsValues (plain key) (pinned_is.world.replica pin.name).live) o → LooksAt fnv1a (Some (pinned pin)) key o
        by (inl long) = inl long
        by (inr (short, reads)) = inr (short, (pinned_is.world, pinned_is.runs, reads))

    look_brings : (past : Past) (r : Result (Vec ℕ A) Refusal)
        → ((live : MapState) → ((place : Place) (dot : DotValue) → (store_state pin.store).at place dot ≡ live.at place dot)
        → TellsText (with_bytes key (ReadsValues (plain key) live)) r)
        → Brings (In held (λ w. LooksAt fnv1a (Some (pinned pin)) key)) past past r
    look_brings past (Ok text) tells = (Done text.items [], (λ w runs. looked (Done text.items []) tells), refl, refl)
    look_brings past (Err refusal) tells = by (is_memory refusal)
      where
        read : refusal ≢ OutOfMemory → (live : MapState) → ((place : Place) (dot : DotValue) → (store_state pin.store).at place dot ≡ live.at place dot)
            → TellsText {A = A} (with_bytes key (ReadsValues (plain key) live)) (Err refusal) → with_bytes key (ReadsValues (plain key) live) (Refused refusal)
        read other live same (inl memory) = absurd (other memory)
        read other live same (inr told) = told

        by : (refusal ≡ OutOfMemory) ⊎ (refusal ≢ OutOfMemory) → Brings {A = A} (In held (λ w. LooksAt fnv1a (Some (pinned pin)) key)) past past (Err refusal)
        by (inl memory) = inl memory
        by (inr other) = inr ((λ w runs. looked (Refused refusal) (λ live same. read other live same (tells live same))), refl)

  -- a look at a pin that is there
  pub look_done : (held : List Held) (pins : List (Pin A)) (n : ℕ) (pin : Pin A) (key : List ℕ) (r : Result (Vec ℕ A) Refusal) → AllPinned pins
      → Some pin ≡ cond (nat_lt 0 n) (slice_get pins (n - 1)) None
      → ((live : MapState) → ((place : Place) (dot : DotValue) → (store_state pin.store).at place dot ≡ live.at place dot)
      → TellsText (with_bytes key (ReadsValues (plain key) live)) r)
      → Brings (In held (λ w. LooksAt fnv1a (pin_at (pins_of pins) n) key)) (past held pins) (past held pins) r
  look_done held pins n pin key r all found tells =
      subst (λ p. Brings (In held (λ w. LooksAt fnv1a p key)) (past held pins) (past held pins) r) (sym (found_pin pins n pin found))
      (look_brings held pin (is_pinned pins n pin all found) key (past held pins) r tells)
