-- What a reader of a field answers: what stands at the front of the bytes, or that nothing does. Of this project.
use Rattle.std.specs.Prelude.{ℕ, List, Result, MatchResult}
use Rattle.dots.specs.declared.refusal.Refusal.{Refusal}
use Rattle.dots.specs.declared.refusal.Refusal.TheVariants.{OutOfMemory, NotAMessage}
use Rattle.wire_form.specs.Spelling.{Begins, HasNoSpelling}

-- a refusal comes for want of memory, or where there is nothing to read
abbrev pub RefusesReading : Type 0 → Refusal → Type 0
RefusesReading Nothing NotAMessage = Nothing
RefusesReading Nothing OutOfMemory = Unit {0}
RefusesReading Nothing _ = ⊥

-- a reader gives a value with the rest of the bytes, as `show` sees the two
abbrev pub Reads : {R V : Type 0} → (R → V × List ℕ) → (V → List ℕ) → (V → Type 0) → List ℕ → Result R Refusal → Type 0
Reads show spell Fits bytes result = MatchResult result (λ r. Begins spell Fits bytes (show r).0 (show r).1) (RefusesReading (HasNoSpelling spell Fits bytes))

-- a reader of all the bytes gives a value, as `show` sees it, that they spell
abbrev pub ReadsAll : {R V : Type 0} → (R → V) → (V → Type 0) → Result R Refusal → Type 0
ReadsAll {R} {V} show Spelled result = MatchResult result (λ r. Spelled (show r)) (RefusesReading ((value : V) → Spelled value → ⊥))
