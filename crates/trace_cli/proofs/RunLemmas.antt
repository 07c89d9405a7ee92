-- What was read and written from the start of a run, over plain variables: ro and rn are what the reader had and has
-- left, wo and wn what the writer held and holds.
use Rattle.std.proofs.Common.{◌≡◌, ◌≢◌, ◌⊎◌, inl, inr, ℕ, ◌+◌, ◌<◌, ◌≤◌, length, length-append, arith, true, false, Result, Ok, Err, IsErrOf, List, [], ◌++◌}
use Rattle.std.proofs.Common.{Option, Some, None, IfSome, refl, ap, sym, ◌∙◌, subst, append_assoc}
use Rattle.std.proofs.lemmas.List.{append-nil}
use Rattle.std.specs.Io.KnownBytes.{Appends, Consumes, Keeps, IsAtEnd}
use Rattle.std.proofs.lemmas.Bool.{true≢false}
use Rattle.dots.specs.Refusal.{number_of}
use Rattle.dots.specs.declared.refusal.Refusal.{Refusal}
use Rattle.dots.specs.declared.refusal.Refusal.TheVariants.{OutOfMemory, TooLong, ReadOnly, NumbersSpent, SessionsFull, NotAMessage, NoPlace, NameTaken}
use Rattle.dots.specs.declared.refusal.Refusal.TheVariants.{UnknownReplica, UnknownMessage, BadLine, Input, Output}
use Rattle.trace_cli.specs.declared.watched.Watched.{Watched}
use Rattle.trace_cli.specs.Watched.{has_failed, has_gone_on, is_flushed}
use Rattle.trace_cli.specs.Ends.{LeavesWriter}
use Rattle.trace_cli.specs.Lines.{has_newline, ends_line}
use Rattle.trace_cli.specs.Turns.{IsAnswered}
use Rattle.trace_cli.specs.Output.{Given, nothing_given, prepend, IsGiven, IsGivenFront, GivesFront}
use Rattle.trace_cli.specs.declared.trace_run.TraceRun.{TraceRun}
use Rattle.trace_cli.specs.TraceRun.{Point, start_point, point_of, GivesAt, Leads, Stops, IsFrontFrom}
use Rattle.trace_cli.specs.Streams.{TakenBytes, Written}
use Rattle.trace_cli.proofs.LineLemmas.{ends_line-append, given_at-Leads, Leads-nothing, Leads-trans, Stops-after, Begins-after, front-prepend}
use Rattle.trace_cli.proofs.StreamLemmas.{Appends-nothing, Appends-trans, Consumes-nothing, Consumes-trans, Consumes-kept}

-- from the start of a run, what was read led to this point by writing what was written
abbrev pub Ran : Option (List ℕ) → Option (List ℕ) → Option (List ℕ) → Option (List ℕ) → Point → Type 0
Ran ro rn wo wn point = TakenBytes ro rn (λ read. Written wo wn (λ text. Leads start_point read text point))

-- what is given to all that was read, by what is given at the point that it led to
given-Leads : (read text : List ℕ) (point : Point) (later : Given) → Leads start_point read text point → GivesAt point [] later
    → IsGiven read (prepend text later)
given-Leads read text point later led gives = subst (λ bytes. IsGiven bytes (prepend text later)) (append-nil read)
    (given_at-Leads start_point point read [] text later led gives)

-- the whole lines of what led to a point were answered
pub answered_at : (read text : List ℕ) (wo wn : Option (List ℕ)) (point : Point) → Leads start_point read text point → Appends wo wn text
    → has_newline point.line ≡ false → IsAnswered wo wn read
answered_at read text wo wn point led wrote no_end =
    let is : IsGiven led.whole (record { text = text; fault = None }) =
    subst (λ bytes. IsGiven bytes (record { text = text; fault = None })) (append-nil led.whole)
    (subst (λ t. IsGiven (led.whole ++ []) (record { text = t; fault = None })) (append-nil text) (led.goes_on [] nothing_given refl)) in (
      led.whole,
      record { rest = point.line; parts = led.parts; ends = led.ends; no_end = no_end },
      (record { text = text; fault = None }, is, wrote, refl),
    )

-- the whole lines that were read were answered
pub Ran-answered : (ro rm rn wo wn : Option (List ℕ)) (point : Point) → Ran ro rm wo wn point → has_newline point.line ≡ false → Keeps rm rn
    → TakenBytes ro rn (λ read. IsAnswered wo wn read)
Ran-answered ro rm rn wo wn point ran no_end kept =
    let P : List ℕ → Type 0 = λ bytes. Consumes ro rn bytes in (
      ran.0,
      subst P (append-nil ran.0) (Consumes-trans ro rm rn ran.0 [] ran.1 (Consumes-kept rm rn kept)),
      answered_at ran.0 ran.2.0 wo wn point ran.2.2 ran.2.1 no_end,
    )

-- at most n bytes were read, and then a piece
pub Pieces-more : (ro rm rn : Option (List ℕ)) (piece : List ℕ) (n m : ℕ) → TakenBytes ro rm (λ read. length read ≤ n) → Consumes rm rn piece
    → n + length piece ≤ m
    → TakenBytes ro rn (λ read. length read ≤ m)
Pieces-more ro rm rn piece n m taken took within = (
  taken.0 ++ piece,
  Consumes-trans ro rm rn taken.0 piece taken.1 took,
  omega (arith, length-append taken.0 piece, taken.2),
)

-- one more piece
pub Ran-more : (ro rm rn wo wm wn : Option (List ℕ)) (mid new : Point) (piece : List ℕ) → Ran ro rm wo wm mid → Consumes rm rn piece
    → Written wm wn (λ text. Leads mid piece text new) → Ran ro rn wo wn new
Ran-more ro rm rn wo wm wn mid new piece ran took then = (
  ran.0 ++ piece,
  Consumes-trans ro rm rn ran.0 piece ran.1 took,
  (
    ran.2.0 ++ then.0,
    Appends-trans wo wm wn ran.2.0 then.0 ran.2.1 then.1,
    Leads-trans start_point mid new ran.0 piece ran.2.0 then.0 ran.2.2 then.2,
  ),
)

pub Ran-stops : (ro rm rn wo wm wn : Option (List ℕ)) (mid : Point) (piece : List ℕ) (refusal : Refusal) → Ran ro rm wo wm mid → Consumes rm rn piece
    → Written wm wn (λ text. Stops mid piece text refusal)
    → TakenBytes ro rn (λ read. (given : Given) × IsGiven read given × Appends wo wn given.text × (given.fault ≡ Some refusal)
    × IfSome rn (λ rest. IsGiven (read ++ rest) given))
Ran-stops ro rm rn wo wm wn mid piece refusal ran took then =
    let read = ran.0 ++ piece in
    let text = ran.2.0 ++ then.0 in
    let given : Given = record { text = text; fault = Some refusal } in
    let stop : Stops start_point read text refusal = Stops-after start_point mid ran.0 piece ran.2.0 then.0 refusal ran.2.2 then.2 in (
      read,
      Consumes-trans ro rm rn ran.0 piece ran.1 took,
      (
        given,
        subst (λ bytes. IsGiven bytes given) (append-nil read) (stop.stops []),
        Appends-trans wo wm wn ran.2.0 then.0 ran.2.1 then.1,
        refl,
        at_rest rn (λ rest. stop.stops rest),
      ),
    )
  where
    at_rest : {P : List ℕ → Type 0} (known : Option (List ℕ)) → ((rest : List ℕ) → P rest) → IfSome known P
    at_rest None all = tt
    at_rest (Some rest) all = all rest

pub Ran-begins : (ro rm rn wo wm wn : Option (List ℕ)) (mid : Point) (piece : List ℕ) → Ran ro rm wo wm mid → Consumes rm rn piece
    → Written wm wn (λ text. IsFrontFrom mid piece text) → TakenBytes ro rn (λ read. Written wo wn (λ text. IsGivenFront read text))
Ran-begins ro rm rn wo wm wn mid piece ran took then =
    let read = ran.0 ++ piece in
    let text = ran.2.0 ++ then.0 in
    let begin : IsFrontFrom start_point read text = Begins-after start_point mid ran.0 piece ran.2.0 then.0 ran.2.2 then.2 in (
      read,
      Consumes-trans ro rm rn ran.0 piece ran.1 took,
      (
        text,
        Appends-trans wo wm wn ran.2.0 then.0 ran.2.1 then.1,
        record {
          lines = begin.lines;
          rest = begin.rest;
          parts = begin.parts;
          whole = inl begin.ends;
          given = begin.given;
          gives = begin.gives;
          front = begin.front;
        },
      ),
    )

-- the last line, after what was read
finished : (wo wm wn : Option (List ℕ)) (read text : List ℕ) (mid : Point) (fault : Option Refusal) → Appends wo wm text → Leads start_point read text mid
    → Written wm wn (λ last. GivesAt mid [] (record { text = last; fault = fault })) → (given : Given) × IsGiven read given × Appends wo wn given.text
    × (given.fault ≡ fault)
finished wo wm wn read text mid fault wrote led then = (
  record { text = text ++ then.0; fault = fault },
  given-Leads read text mid (record { text = then.0; fault = fault }) led then.2,
  Appends-trans wo wm wn text then.0 wrote then.1,
  refl,
)

-- the end of the input, and what is given to the last line
pub Ran-finishes : (ro rm rn wo wm wn : Option (List ℕ)) (mid : Point) (fault : Option Refusal) → Ran ro rm wo wm mid → Consumes rm rn []
    → Written wm wn (λ text. GivesAt mid [] (record { text = text; fault = fault }))
    → TakenBytes ro rn (λ read. (given : Given) × IsGiven read given × Appends wo wn given.text × (given.fault ≡ fault))
Ran-finishes ro rm rn wo wm wn mid fault ran took then =
    let P : List ℕ → Type 0 = λ bytes. Consumes ro rn bytes in
    (ran.0, subst P (append-nil ran.0) (Consumes-trans ro rm rn ran.0 [] ran.1 took), finished wo wm wn ran.0 ran.2.0 mid fault ran.2.1 ran.2.2 then)

-- a whole input that was fed to a run of a trace from its start, and finished
pub finished_all : {A : Type 0} (wo wm wn : Option (List ℕ)) (trace_run : TraceRun A) (input : List ℕ) (mid : Point) (fault : Option Refusal)
    → point_of trace_run ≡ start_point
    → Written wo wm (λ text. Leads (point_of trace_run) input text mid) → Written wm wn (λ last. GivesAt mid [] (record { text = last; fault = fault }))
    → (given : Given) × IsGiven input given × Appends wo wn given.text
finished_all wo wm wn trace_run input mid fault at_start fed then =
    let P : Point → Type 0 = λ point. Leads point input fed.0 mid in
    let all = finished wo wm wn input fed.0 mid fault fed.1 (subst P at_start fed.2) then in
    (all.0, all.1, all.2)

-- nothing was read or written yet
pub Ran-start : {A : Type 0} (ro wo : Option (List ℕ)) (trace_run : TraceRun A) → point_of trace_run ≡ start_point → Ran ro ro wo wo (point_of trace_run)
Ran-start ro wo trace_run at_start =
    let P : Point → Type 0 = λ point. Ran ro ro wo wo point in
    subst P (sym at_start) ([], Consumes-nothing ro, ([], Appends-nothing wo, Leads-nothing start_point))

-- nothing comes after the end
pub at_end : (read : List ℕ) (given : Given) (rn : Option (List ℕ)) → IsAtEnd rn → IsGiven read given → IfSome rn (λ rest. IsGiven (read ++ rest) given)
at_end read given None ended is = tt
at_end read given (Some rest) ended is = subst (λ bytes. IsGiven bytes given) (sym (ap (λ bytes. read ++ bytes) ended ∙ append-nil read)) is

-- a front of what is given to the last line, after what was read
pub Ran-ends : (ro rm rn wo wm wn : Option (List ℕ)) (mid : Point) → Ran ro rm wo wm mid → Consumes rm rn []
    → Written wm wn (λ text. GivesFront mid.past mid.number mid.line text) → TakenBytes ro rn (λ read. Written wo wn (λ text. IsGivenFront read text))
Ran-ends ro rm rn wo wm wn mid ran took then =
    let read = ran.0 in
    let P : List ℕ → Type 0 = λ bytes. Consumes ro rn bytes in (
      read,
      subst P (append-nil read) (Consumes-trans ro rm rn read [] ran.1 took),
      (ran.2.0 ++ then.0, Appends-trans wo wm wn ran.2.0 then.0 ran.2.1 then.1, front_after read ran.2.0 then.0 mid ran.2.2 then.2),
    )
  where
    whole_after : (xs ys rest : List ℕ) → ends_line xs ≡ true → (ends_line ys ≡ true) ⊎ (rest ≡ []) → (ends_line (xs ++ ys) ≡ true) ⊎ (rest ≡ [])
    whole_after xs ys rest first (inl then) = inl (ends_line-append xs ys first then)
    whole_after xs ys rest first (inr none) = inr none

    front_after : (read text last : List ℕ) (mid : Point) → Leads start_point read text mid → GivesFront mid.past mid.number mid.line last
        → IsGivenFront read (text ++ last)
    front_after read text last mid led front = record {
      lines = led.whole ++ front.lines;
      rest = front.rest;
      parts = led.parts ∙ (ap (λ line. led.whole ++ line) front.parts ∙ sym (append_assoc led.whole front.lines front.rest));
      whole = whole_after led.whole front.lines front.rest led.ends front.whole;
      given = prepend text front.given;
      gives = led.goes_on front.lines front.given front.gives;
      front = front-prepend text last front.given front.front;
    }

-- nothing was read or written more
pub Ran-kept : (ro rm rn wo wn : Option (List ℕ)) (point : Point) → Ran ro rm wo wn point → Keeps rm rn
    → TakenBytes ro rn (λ read. Written wo wn (λ text. IsGivenFront read text))
Ran-kept ro rm rn wo wn point ran kept =
    Ran-ends ro rm rn wo wn wn point ran (Consumes-kept rm rn kept) (
      [],
      Appends-nothing wn,
      record {
        lines = [];
        rest = point.line;
        parts = refl;
        whole = inl refl;
        given = nothing_given;
        gives = refl;
        front = record { rest = []; joined = refl };
      },
    )

-- a fault in the whole input
pub Stops-written : {A : Type 0} (wo wn : Option (List ℕ)) (trace_run : TraceRun A) (input : List ℕ) (refusal : Refusal) → point_of trace_run ≡ start_point
    → Written wo wn (λ text. Stops (point_of trace_run) input text refusal) → (given : Given) × IsGiven input given × Appends wo wn given.text
Stops-written wo wn trace_run input refusal at_start then =
    let P : Point → Type 0 = λ point. Stops point input then.0 refusal in
    let stop : Stops start_point input then.0 refusal = subst P at_start then.2 in
    let given : Given = record { text = then.0; fault = Some refusal } in
    (given, subst (λ bytes. IsGiven bytes given) (append-nil input) (stop.stops []), then.1)

-- a refusal is Output or it is not
apart : (refusal : Refusal) → number_of refusal < 13 → refusal ≢ Output
apart refusal below is = let e : number_of refusal ≡ 13 = ap number_of is in omega (arith, e, below)

by_output : (refusal : Refusal) → (refusal ≡ Output) ⊎ (refusal ≢ Output)
by_output Output = inl refl
by_output Input = let below : 12 < 13 = omega arith in inr (apart Input below)
by_output BadLine = let below : 11 < 13 = omega arith in inr (apart BadLine below)
by_output UnknownMessage = let below : 10 < 13 = omega arith in inr (apart UnknownMessage below)
by_output UnknownReplica = let below : 9 < 13 = omega arith in inr (apart UnknownReplica below)
by_output NameTaken = let below : 8 < 13 = omega arith in inr (apart NameTaken below)
by_output NoPlace = let below : 7 < 13 = omega arith in inr (apart NoPlace below)
by_output NotAMessage = let below : 6 < 13 = omega arith in inr (apart NotAMessage below)
by_output SessionsFull = let below : 5 < 13 = omega arith in inr (apart SessionsFull below)
by_output NumbersSpent = let below : 4 < 13 = omega arith in inr (apart NumbersSpent below)
by_output ReadOnly = let below : 3 < 13 = omega arith in inr (apart ReadOnly below)
by_output TooLong = let below : 2 < 13 = omega arith in inr (apart TooLong below)
by_output OutOfMemory = let below : 1 < 13 = omega arith in inr (apart OutOfMemory below)

-- an outcome that is Input is not Output
pub input_is_other : {T : Type 0} → IsErrOf {T = T} {E = Refusal} (Err Input) Output → ⊥
input_is_other {T = T} is = let e : 12 ≡ 13 = ap number is in omega (arith, e)
  where
    number : Result T Refusal → ℕ
    number (Ok value) = 0
    number (Err refusal) = number_of refusal

-- what an outcome tells of the writer that it leaves
pub writer_failed : {W T : Type 0} (result : Result T Refusal) (writer : Watched W) → LeavesWriter result writer → has_failed writer ≡ true
    → IsErrOf result Output
writer_failed (Ok value) writer left failed = absurd (true≢false (sym failed ∙ left.no_failure))
writer_failed {T = T} (Err refusal) writer left failed = by (by_output refusal)
  where
    by : (refusal ≡ Output) ⊎ (refusal ≢ Output) → IsErrOf {T = T} (Err refusal) Output
    by (inl is) = ap Err is
    by (inr other) = absurd (true≢false (sym failed ∙ (left.sound other).no_failure))

pub never_gone_on : {W T : Type 0} (result : Result T Refusal) (writer : Watched W) → LeavesWriter result writer → has_gone_on writer ≡ false
never_gone_on (Ok value) writer left = left.not_gone_on
never_gone_on (Err refusal) writer left = by (by_output refusal)
  where
    by : (refusal ≡ Output) ⊎ (refusal ≢ Output) → has_gone_on writer ≡ false
    by (inl is) = (left.broken is).not_gone_on
    by (inr other) = (left.sound other).not_gone_on

pub all_flushed : {W T : Type 0} (result : Result T Refusal) (writer : Watched W) → LeavesWriter result writer → has_failed writer ≡ false
    → is_flushed writer ≡ true
all_flushed (Ok value) writer left sound = left.flushed
all_flushed (Err refusal) writer left sound = by (by_output refusal)
  where
    by : (refusal ≡ Output) ⊎ (refusal ≢ Output) → is_flushed writer ≡ true
    by (inl is) = absurd (true≢false (sym (left.broken is).failure ∙ sound))
    by (inr other) = (left.sound other).flushed
