-- What a reader may answer, from what other readers answered.
use Rattle.std.proofs.Common.{Result, Ok, Err, ◌≡◌, ℕ, List, sym, ◌∙◌, subst}
use Rattle.dots.specs.declared.refusal.Refusal.{Refusal}
use Rattle.dots.specs.declared.refusal.Refusal.TheVariants.{OutOfMemory, TooLong, ReadOnly, NumbersSpent, SessionsFull, NotAMessage, NoPlace, NameTaken}
use Rattle.dots.specs.declared.refusal.Refusal.TheVariants.{UnknownReplica, UnknownMessage, BadLine, Input, Output}
use Rattle.wire_form.specs.Spelling.{Begins, HasNoSpelling}
use Rattle.wire_form.specs.Reading.{RefusesReading, Reads}
use Rattle.wire_form.specs.Unique.{IsUnique}

-- a refusal that comes where there is nothing of one kind, comes where there is nothing of another
pub refuses_weaker : (P Q : Type 0) (e : Refusal) → (P → Q) → RefusesReading P e → RefusesReading Q e
refuses_weaker P Q OutOfMemory f h = tt
refuses_weaker P Q TooLong f h = h
refuses_weaker P Q ReadOnly f h = h
refuses_weaker P Q NumbersSpent f h = h
refuses_weaker P Q SessionsFull f h = h
refuses_weaker P Q NotAMessage f h = f h
refuses_weaker P Q NoPlace f h = h
refuses_weaker P Q NameTaken f h = h
refuses_weaker P Q UnknownReplica f h = h
refuses_weaker P Q UnknownMessage f h = h
refuses_weaker P Q BadLine f h = h
refuses_weaker P Q Input f h = h
refuses_weaker P Q Output f h = h

-- want of memory
pub refuses_memory : (P : Type 0) (e : Refusal) → e ≡ OutOfMemory → RefusesReading P e
refuses_memory P e is = subst (RefusesReading P) (sym is) tt

pub refuses_absent : (P : Type 0) (e : Refusal) → e ≡ NotAMessage → P → RefusesReading P e
refuses_absent P e is h = subst (RefusesReading P) (sym is) h

-- what was read, where it is not lawful
pub none_lawful : {V : Type 0} (spell : V → List ℕ) (Fits Lawful : V → Type 0) → IsUnique spell Fits → ((v : V) → Lawful v → Fits v)
    → (bytes : List ℕ) (v : V) (rest : List ℕ)
    → Begins spell Fits bytes v rest → ¬ Lawful v → HasNoSpelling spell Lawful bytes
none_lawful spell Fits Lawful unique weaker bytes v rest read bad w end other =
    let same = unique v w rest end read.fits (weaker w other.fits) (sym read.parts ∙ other.parts) in
    bad (subst Lawful (sym same.0) other.fits)

-- what a reader answers, read as the answer of another
pub reads_weaker : {R V W : Type 0} (show : R → V × List ℕ) (other : R → W × List ℕ) (spell : V → List ℕ) (Fits : V → Type 0) (spell' : W → List ℕ)
    (Fits' : W → Type 0) (bytes bytes' : List ℕ) (r : Result R Refusal)
    → ((x : R) → Begins spell Fits bytes (show x).0 (show x).1 → Begins spell' Fits' bytes' (other x).0 (other x).1)
    → (HasNoSpelling spell Fits bytes → HasNoSpelling spell' Fits' bytes')
    → Reads show spell Fits bytes r → Reads other spell' Fits' bytes' r
reads_weaker show other spell Fits spell' Fits' bytes bytes' (Ok x) f g h = f x h
reads_weaker show other spell Fits spell' Fits' bytes bytes' (Err e) f g h =
    refuses_weaker (HasNoSpelling spell Fits bytes) (HasNoSpelling spell' Fits' bytes') e g h
