-- What a line is answered, by what its command came to: over plain variables.
use Rattle.std.proofs.Common.{◌≡◌, ◌≢◌, inl, inr, ℕ, suc, true, false, ◌==◌, List, [], ◌∷◌, length, refl, ap, subst, ◌∙◌, arith, Option, Some, Result, Ok, Err}
use Rattle.std.proofs.lemmas.Bool.Decides.{nat_tests}
use Rattle.std.specs.declared.vec.Vec.{Vec}
use Rattle.dots.specs.declared.refusal.Refusal.{Refusal}
use Rattle.dots.specs.declared.refusal.Refusal.TheVariants.{OutOfMemory}
use Rattle.hash_path.specs.Fnv1a.{fnv1a}
use Rattle.replica_model.specs.World.{World, nothing, Runs}
use Rattle.replica_world.specs.Held.{events_of}
use Rattle.trace_words.specs.Answer.{LineAnswer, Silent, answered_as}
use Rattle.trace_words.specs.Command.{CommandValue, command_of}
use Rattle.trace_world.specs.Does.{Brings, In}
use Rattle.trace_world.specs.Line.{Past, Answers, LineComes}
use Rattle.trace_world.specs.Outcome.{Refused, Comes}

zero_length : (n : ℕ) → true ≡ (suc n == 0) → ⊥
zero_length n h = grind (arith, nat_tests)

pub answers_nothing : (past : Past) (line : List ℕ) → true ≡ (length line == 0) → Answers past line Silent past
answers_nothing past [] h = (refl, refl)
answers_nothing past (byte ∷ line) h = absurd (zero_length (length line) h)

pub answers_command : {A : Type 0} (past next : Past) (line : List ℕ) (done : Result (Vec ℕ A) Refusal) (answer : LineAnswer) → false ≡ (length line == 0)
    → Brings (LineComes past (command_of line)) past next done → answer ≡ answered_as done → done ≢ Err OutOfMemory → Answers past line answer next
answers_command past next [] done answer h brings is other = absurd cc
answers_command past next (byte ∷ line) (Ok text) answer h (outcome, comes, told, after) is other = (outcome, comes, is ∙ told, after)
answers_command past next (byte ∷ line) (Err refusal) answer h (inl memory) is other = absurd (other (ap Err memory))
answers_command past next (byte ∷ line) (Err refusal) answer h (inr (comes, same)) is other = (Refused refusal, comes, is, same)

-- a command in the world of the events so far
pub brings_line : {A : Type 0} (past next : Past) (w : World) (c : CommandValue) (found : Option CommandValue) (r : Result (Vec ℕ A) Refusal)
    → Runs fnv1a nothing (events_of past.held) w → Some c ≡ found
    → Brings (In past.held (λ w. Comes fnv1a w past.pins c)) past next r → Brings (LineComes past found) past next r
brings_line past next w c found r runs is brings = subst (λ f. Brings (LineComes past f) past next r) is (by r brings)
  where
    by : {A : Type 0} (r : Result (Vec ℕ A) Refusal) → Brings (In past.held (λ w. Comes fnv1a w past.pins c)) past next r
        → Brings (LineComes past (Some c)) past next r
    by (Ok text) (outcome, comes, told, after) = (outcome, (w, runs, comes w runs), told, after)
    by (Err refusal) (inl memory) = inl memory
    by (Err refusal) (inr (comes, same)) = inr ((w, runs, comes w runs), same)
