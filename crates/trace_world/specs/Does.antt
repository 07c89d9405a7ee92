-- How a call of the machine keeps to what a command may come to.
use Rattle.std.specs.Prelude.{◌≡◌, ◌⊎◌, ℕ, true, false, List, [], ◌++◌, Result, Ok, Err}
use Rattle.std.specs.List.{All, fold}
use Rattle.std.specs.Map.{keys_of}
use Rattle.std.specs.declared.vec.Vec.{Vec}
use Rattle.dots.specs.declared.refusal.Refusal.{Refusal}
use Rattle.dots.specs.declared.refusal.Refusal.TheVariants.{OutOfMemory}
use Rattle.hash_path.specs.Fnv1a.{fnv1a}
use Rattle.replica_model.specs.Crashing.{Occurrence}
use Rattle.replica_model.specs.World.{World, is_node, nothing, Runs}
use Rattle.replica_world.specs.Held.{Held, events_of, after}
use Rattle.trace_words.specs.Answer.{Told}
use Rattle.trace_words.specs.Text.{entries_text}
use Rattle.trace_world.specs.Line.{Past, answer_by, past_by}
use Rattle.trace_world.specs.Outcome.{CommandOutcome, Refused, Done}

-- it was read, told as this text; or refused; or memory ran out
abbrev pub TellsText : {A : Type 0} → (CommandOutcome → Type 0) → Result (Vec ℕ A) Refusal → Type 0
TellsText Comes (Ok text) = Comes (Done text.items [])
TellsText Comes (Err refusal) = (refusal ≡ OutOfMemory) ⊎ Comes (Refused refusal)

-- in the world of what is held
abbrev pub In : List Held → (World → CommandOutcome → Type 0) → CommandOutcome → Type 0
In held Comes outcome = (w : World) → Runs fnv1a nothing (events_of held) w → Comes w outcome

-- a replica of this name is there, or is not
abbrev pub IsThere : List Held → ℕ → Type 0
IsThere held name = (w : World) → Runs fnv1a nothing (events_of held) w → is_node w name ≡ true

abbrev pub IsAbsent : List Held → ℕ → Type 0
IsAbsent held name = (w : World) → Runs fnv1a nothing (events_of held) w → is_node w name ≡ false

-- it was done, told as this text, and this occurred; or it was refused, and nothing changed; or memory ran out
abbrev pub Does : {A : Type 0} → (CommandOutcome → Type 0) → List Held → List Held → Result (Vec ℕ A) Refusal → Type 0
Does Comes old new (Ok text) = (xs : List Occurrence) × Comes (Done text.items xs) × (new ≡ fold after old xs)
Does Comes old new (Err refusal) = (refusal ≡ OutOfMemory) ⊎ (Comes (Refused refusal) × (new ≡ old))

-- it was done as an outcome says, and there is what there is after it; or it was refused, and nothing changed; or memory ran out
abbrev pub Brings : {A : Type 0} → (CommandOutcome → Type 0) → Past → Past → Result (Vec ℕ A) Refusal → Type 0
Brings Comes old new (Ok text) = (outcome : CommandOutcome) × Comes outcome × (Told text.items ≡ answer_by outcome) × (new ≡ past_by old outcome)
Brings Comes old new (Err refusal) = (refusal ≡ OutOfMemory) ⊎ (Comes (Refused refusal) × (new ≡ old))

-- behind the first text the second has an entry for each of these labels, with values of which P says so
abbrev pub AddsEntries : (List ℕ → List (List ℕ) → Type 0) → List (List ℕ) → List ℕ → List ℕ → Type 0
AddsEntries P labels old new = (entries : List (List ℕ × List (List ℕ))) × (keys_of entries ≡ labels) × All (λ e. P e.0 e.1) entries
    × (new ≡ old ++ entries_text entries)
