-- What a status tells of the outcome that it stands for.
use Rattle.std.proofs.Common.{◌≡◌, ◌≢◌, ◌≤◌, ◌⊎◌, inl, inr, ◌||◌, Bool, true, false, arith, refl, ap, Result, Ok, Err, OnOk, OnErr, IfErr, IsErrOf, Option}
use Rattle.std.proofs.Common.{Some, None, IsSome}
use Rattle.dots.specs.declared.refusal.Refusal.{Refusal}
use Rattle.dots.specs.declared.refusal.Refusal.TheVariants.{OutOfMemory, TooLong, ReadOnly, NumbersSpent, SessionsFull, NotAMessage, NoPlace, NameTaken}
use Rattle.dots.specs.declared.refusal.Refusal.TheVariants.{UnknownReplica, UnknownMessage, BadLine, Input, Output}
use Rattle.trace_words.specs.Fault.{is_fault, ends_run}
use Rattle.trace_cli.specs.Status.{status_by, status_of}

abbrev pub Outcome : Type 0
Outcome = Result (Unit {0}) Refusal

-- a refusal that can end a run has the status of its kind
data Kind (refusal : Refusal) : Type 0 where
  faulted : is_fault refusal ≡ true → status_by refusal ≡ 1 → Kind refusal
  input : refusal ≡ Input → Kind refusal
  output : refusal ≡ Output → Kind refusal
  memory : status_by refusal ≡ 3 → Kind refusal

kind_of : (refusal : Refusal) → ends_run refusal ≡ true → Kind refusal
kind_of OutOfMemory ends = memory refl
kind_of Input ends = input refl
kind_of Output ends = output refl
kind_of NameTaken ends = faulted refl refl
kind_of UnknownReplica ends = faulted refl refl
kind_of UnknownMessage ends = faulted refl refl
kind_of BadLine ends = faulted refl refl
kind_of TooLong ends = absurd cc
kind_of ReadOnly ends = absurd cc
kind_of NumbersSpent ends = absurd cc
kind_of SessionsFull ends = absurd cc
kind_of NotAMessage ends = absurd cc
kind_of NoPlace ends = absurd cc

status_is : (refusal : Refusal) → Kind refusal → (status_by refusal ≡ 1) ⊎ ((status_by refusal ≡ 2) ⊎ (status_by refusal ≡ 3))
status_is refusal (faulted fault is) = inl is
status_is refusal (input is) = inr (inl (ap status_by is))
status_is refusal (output is) = inr (inl (ap status_by is))
status_is refusal (memory is) = inr (inr is)

pub ok_at_0 : {P : Type 0} (outcome : Outcome) → IfErr outcome (λ refusal. ends_run refusal ≡ true) → OnOk outcome P → status_of outcome ≡ 0 → P
ok_at_0 (Ok done) ends p is = p
ok_at_0 {P = P} (Err refusal) ends p is = by (status_is refusal (kind_of refusal ends))
  where
    by : (status_by refusal ≡ 1) ⊎ ((status_by refusal ≡ 2) ⊎ (status_by refusal ≡ 3)) → P
    by (inl one) = absurd (omega (arith, is, one))
    by (inr (inl two)) = absurd (omega (arith, is, two))
    by (inr (inr three)) = absurd (omega (arith, is, three))

pub fault_at_1 : {P : Refusal → Type 0} (outcome : Outcome) → IfErr outcome (λ refusal. ends_run refusal ≡ true)
    → IfErr outcome (λ refusal. is_fault refusal ≡ true → P refusal)
    → status_of outcome ≡ 1 → (refusal : Refusal) × P refusal
fault_at_1 (Ok done) ends told is = absurd (omega (arith, is))
fault_at_1 {P = P} (Err refusal) ends told is = by (kind_of refusal ends)
  where
    by : Kind refusal → (refusal : Refusal) × P refusal
    by (faulted fault one) = (refusal, told fault)
    by (input named) = let two : status_by refusal ≡ 2 = ap status_by named in absurd (omega (arith, is, two))
    by (output named) = let two : status_by refusal ≡ 2 = ap status_by named in absurd (omega (arith, is, two))
    by (memory three) = absurd (omega (arith, is, three))

or_right : (a b : Bool) → b ≡ true → (a || b) ≡ true
or_right true b h = refl
or_right false b h = h

pub failed_at_2 : {C : Type 0} (outcome : Outcome) (reader writer : Bool) → IfErr outcome (λ refusal. ends_run refusal ≡ true)
    → (IsErrOf outcome Input → (reader ≡ true) ⊎ C) → (IsErrOf outcome Output → writer ≡ true) → status_of outcome ≡ 2 → ((reader || writer) ≡ true) ⊎ C
failed_at_2 (Ok done) reader writer ends input_by output_by is = absurd (omega (arith, is))
failed_at_2 {C = C} (Err refusal) reader writer ends input_by output_by is = by (kind_of refusal ends)
  where
    of_reader : (reader ≡ true) ⊎ C → ((reader || writer) ≡ true) ⊎ C
    of_reader (inl failed) = inl (ap (λ b. b || writer) failed)
    of_reader (inr spent) = inr spent

    by : Kind refusal → ((reader || writer) ≡ true) ⊎ C
    by (faulted fault one) = absurd (omega (arith, is, one))
    by (input named) = of_reader (input_by (ap Err named))
    by (output named) = inl (or_right reader writer (output_by (ap Err named)))
    by (memory three) = absurd (omega (arith, is, three))

pub told_by_2 : (outcome : Outcome) (reader writer : Bool) → (reader ≡ true → IsErrOf outcome Input) → (writer ≡ true → IsErrOf outcome Output)
    → (reader || writer) ≡ true → status_of outcome ≡ 2
told_by_2 outcome true writer input_by output_by failed = ap status_of (input_by refl)
told_by_2 outcome false writer input_by output_by failed = ap status_of (output_by failed)

pub at_most_3 : (outcome : Outcome) → IfErr outcome (λ refusal. ends_run refusal ≡ true) → status_of outcome ≤ 3
at_most_3 (Ok done) ends = omega arith
at_most_3 (Err refusal) ends = by (status_is refusal (kind_of refusal ends))
  where
    by : (status_by refusal ≡ 1) ⊎ ((status_by refusal ≡ 2) ⊎ (status_by refusal ≡ 3)) → status_by refusal ≤ 3
    by (inl one) = omega (arith, one)
    by (inr (inl two)) = omega (arith, two)
    by (inr (inr three)) = omega (arith, three)

pub err_past_0 : {P : Type 0} (outcome : Outcome) → OnErr outcome P → status_of outcome ≢ 0 → P
err_past_0 (Ok done) p some = absurd (some refl)
err_past_0 (Err refusal) p some = p

pub some_fault : (fault : Option Refusal) (refusal : Refusal) → fault ≡ Some refusal → IsSome fault
some_fault (Some other) refusal is = refl
some_fault None refusal is = absurd cc
