-- How the lines of a text, and what is given to them, go from one byte to the next: over plain variables.
use Rattle.std.proofs.Common.{◌≡◌, ◌⊎◌, inl, inr, ℕ, ◌+◌, Bool, true, false, ◌==◌, ◌||◌, List, [], ◌∷◌, ◌++◌, refl, ap, sym, ◌∙◌, subst, append_assoc, take}
use Rattle.std.proofs.Common.{drop, get_or, length, ◌<◌, arith, Option, Some, None, Result, Ok, Err, OnOk, OnErr}
use Rattle.std.proofs.lemmas.List.{append-nil, take_more, take-append-drop}
use Rattle.std.proofs.lemmas.Bool.Decides.{nat_tests}
use Rattle.std.proofs.lemmas.Bool.{true≢false}
use Rattle.dots.specs.declared.refusal.Refusal.{Refusal}
use Rattle.trace_words.specs.Answer.{LineAnswer, Silent, Told, Faulted}
use Rattle.trace_world.specs.Line.{Past, Answers}
use Rattle.trace_cli.specs.Lines.{lines_of, has_newline, ends_line, ends_line_after}
use Rattle.trace_cli.specs.Output.{Given, nothing_given, prepend, Gives, GivesFirst, GivesFront, answer_text}
use Rattle.trace_words.specs.Reply.{TraceGoesOn}
use Rattle.trace_cli.specs.TraceRun.{Point, GivesAt, Leads, Stops, IsFrontFrom}
use Rattle.trace_cli.specs.Streams.{IsFront, Written}
use Rattle.trace_cli.proofs.StreamLemmas.{Appends-trans}

-- a test is passed by a number other than this, or the alternative is
or_false_left : (a b : Bool) → (a || b) ≡ false → a ≡ false
or_false_left true b h = h
or_false_left false b h = refl

or_false_right : (a b : Bool) → (a || b) ≡ false → b ≡ false
or_false_right true b h = cc
or_false_right false b h = h

-- what is read of a line comes before its end
pub lines_of-line : (line more : List ℕ) → has_newline line ≡ false → lines_of (line ++ 10 ∷ more) ≡ line ∷ lines_of more
lines_of-line [] more h = refl
lines_of-line (byte ∷ line) more h =
    let here : (byte == 10) ≡ false = or_false_left (byte == 10) (has_newline line) h in
    rw (here, lines_of-line line more (or_false_right (byte == 10) (has_newline line) h)) refl

pub has_newline-append : (xs ys : List ℕ) → has_newline xs ≡ false → has_newline ys ≡ false → has_newline (xs ++ ys) ≡ false
has_newline-append [] ys first then = then
has_newline-append (x ∷ xs) ys first then =
    rw (or_false_left (x == 10) (has_newline xs) first) (has_newline-append xs ys (or_false_right (x == 10) (has_newline xs) first) then)

-- a last line that is not empty is one line
pub lines_of-last : (byte : ℕ) (line : List ℕ) → has_newline (byte ∷ line) ≡ false → lines_of (byte ∷ line) ≡ (byte ∷ line) ∷ []
lines_of-last byte [] h = rw (or_false_left (byte == 10) false h) refl
lines_of-last byte (next ∷ line) h =
    rw (or_false_left (byte == 10) (has_newline (next ∷ line)) h, lines_of-last next line (or_false_right (byte == 10) (has_newline (next ∷ line)) h)) refl

pub ends_line-newline : (line : List ℕ) → ends_line (line ++ 10 ∷ []) ≡ true
ends_line-newline [] = refl
ends_line-newline (byte ∷ line) = after byte line
  where
    after : (byte : ℕ) (line : List ℕ) → ends_line_after byte (line ++ 10 ∷ []) ≡ true
    after byte [] = refl
    after byte (next ∷ line) = after next line

pub ends_line-append : (xs ys : List ℕ) → ends_line xs ≡ true → ends_line ys ≡ true → ends_line (xs ++ ys) ≡ true
ends_line-append [] ys first then = then
ends_line-append (x ∷ xs) ys first then = after x xs ys first then
  where
    after : (x : ℕ) (xs ys : List ℕ) → ends_line_after x xs ≡ true → ends_line ys ≡ true → ends_line_after x (xs ++ ys) ≡ true
    after x [] [] first then = first
    after x [] (y ∷ ys) first then = then
    after x (next ∷ xs) ys first then = after next xs ys first then

-- the point after a line that was answered, and then there is this
abbrev pub next_line : Point → Past → Point
next_line old next = record { past = next; number = old.number + 1; line = [] }

-- what is given to a line that has ended, and to what comes after it, is given to the bytes
line_given : (old : Point) (more : List ℕ) (given : Given) → has_newline old.line ≡ false → Gives old.past old.number (old.line ∷ lines_of more) given
    → GivesAt old ((10 ∷ []) ++ more) given
line_given old more given h gives = subst (λ lines. Gives old.past old.number lines given) (sym (lines_of-line old.line more h)) gives

-- an answer after which the trace goes on comes before what is given to the rest
goes_first : (answer : LineAnswer) (number : ℕ) (Later : Given → Type 0) (later : Given) → TraceGoesOn answer → Later later
    → GivesFirst answer number Later (prepend (answer_text answer number) later)
goes_first Silent number Later later on is = is
goes_first (Told text) number Later later on is = (later, is, refl)
goes_first (Faulted refusal) number Later later on is = absurd on

pub Leads-answer : (old : Point) (next : Past) (answer : LineAnswer) → has_newline old.line ≡ false → Answers old.past old.line answer next → TraceGoesOn answer
    → Leads old (10 ∷ []) (answer_text answer old.number) (next_line old next)
Leads-answer old next answer h is on = record {
  whole = old.line ++ 10 ∷ [];
  parts = sym (append-nil (old.line ++ 10 ∷ []));
  ends = ends_line-newline old.line;
  goes_on = λ more later gives.
      let first = goes_first answer old.number (λ given. Gives next (old.number + 1) (lines_of more) given) later on gives in
      let given = prepend (answer_text answer old.number) later in
      subst (λ bytes. Gives old.past old.number (lines_of bytes) given) (sym (append_assoc old.line (10 ∷ []) more))
      (line_given old more given h (answer, next, is, first));
}

pub Stops-told : (old : Point) (next : Past) (answer : LineAnswer) (refusal : Refusal) → has_newline old.line ≡ false → Answers old.past old.line answer next
    → answer ≡ Faulted refusal → Stops old (10 ∷ []) (answer_text answer old.number) refusal
Stops-told old next answer refusal h is fault =
    let P : LineAnswer → Type 0 = λ a. Stops old (10 ∷ []) (answer_text a old.number) refusal in
    subst P (sym fault) (record {
      stops = λ more. line_given old more (record { text = answer_text (Faulted refusal) old.number; fault = Some refusal }) h
          (Faulted refusal, next, subst (λ a. Answers old.past old.line a next) fault is, refl);
    })

-- what is given to one line with this answer, of which the text is a front
one_line : (answer : LineAnswer) (number : ℕ) (Later : Given → Type 0) (part : List ℕ) → Later nothing_given → IsFront part (answer_text answer number)
    → (given : Given) × GivesFirst answer number Later given × IsFront part given.text
one_line Silent number Later part none front = (nothing_given, none, front)
one_line (Told text) number Later part none front =
    (prepend (answer_text (Told text) number) nothing_given, (nothing_given, none, refl), record { rest = front.rest; joined = append-nil _ ∙ front.joined })
one_line (Faulted refusal) number Later part none front = (record { text = answer_text (Faulted refusal) number; fault = Some refusal }, refl, front)

pub Begins-answer : (old : Point) (next : Past) (answer : LineAnswer) (part : List ℕ) → has_newline old.line ≡ false → Answers old.past old.line answer next
    → IsFront part (answer_text answer old.number) → IsFrontFrom old (10 ∷ []) part
Begins-answer old next answer part h is front =
    let one = one_line answer old.number (λ given. Gives next (old.number + 1) [] given) part refl front in
    record {
      lines = old.line ++ 10 ∷ [];
      rest = [];
      parts = sym (append-nil (old.line ++ 10 ∷ []));
      ends = ends_line-newline old.line;
      given = one.0;
      gives = line_given old [] one.0 h (answer, next, is, one.1);
      front = one.2;
    }

-- nothing was written yet
pub Begins-nothing : (old : Point) (piece : List ℕ) → IsFrontFrom old piece []
Begins-nothing old piece = record {
  lines = [];
  rest = old.line ++ piece;
  parts = refl;
  ends = refl;
  given = nothing_given;
  gives = refl;
  front = record { rest = []; joined = refl };
}

-- what was written to whole lines is a front of what is given to them
pub Begins-led : (old new : Point) (piece text : List ℕ) → Leads old piece text new → IsFrontFrom old piece text
Begins-led old new piece text led = record {
  lines = led.whole;
  rest = new.line;
  parts = led.parts;
  ends = led.ends;
  given = prepend text nothing_given;
  gives = subst (λ bytes. Gives old.past old.number (lines_of bytes) (prepend text nothing_given)) (append-nil led.whole) (led.goes_on [] nothing_given refl);
  front = record { rest = []; joined = refl };
}

-- and so is a front of a front
pub Begins-part : (old : Point) (piece text part : List ℕ) → IsFrontFrom old piece text → IsFront part text → IsFrontFrom old piece part
Begins-part old piece text part begin front = record {
  lines = begin.lines;
  rest = begin.rest;
  parts = begin.parts;
  ends = begin.ends;
  given = begin.given;
  gives = begin.gives;
  front = record {
    rest = front.rest ++ begin.front.rest;
    joined = begin.front.joined ∙ (ap (λ t. t ++ begin.front.rest) front.joined ∙ append_assoc part front.rest begin.front.rest);
  };
}

-- A front was written of a text that was held in memory, which was empty before a piece was answered in it.
pub Begins-held : (fed : Result (Unit {0}) Refusal) (old new : Point) (piece before items text : List ℕ) (wo wn : Option (List ℕ)) → before ≡ [] → text ≡ items
    → OnOk fed (Written (Some before) (Some items) (λ t. Leads old piece t new)) → OnErr fed (Written (Some before) (Some items) (λ t. IsFrontFrom old piece t))
    → Written wo wn (λ part. IsFront part text) → Written wo wn (λ part. IsFrontFrom old piece part)
Begins-held fed old new piece before items text wo wn empty same led begun (part, wrote, front) =
    (part, wrote, Begins-part old piece text part (whole fed led begun) front)
  where
    held : (t : List ℕ) → items ≡ before ++ t → text ≡ t
    held t is = same ∙ (is ∙ ap (λ b. b ++ t) empty)

    whole : (fed : Result (Unit {0}) Refusal) → OnOk fed (Written (Some before) (Some items) (λ t. Leads old piece t new))
        → OnErr fed (Written (Some before) (Some items) (λ t. IsFrontFrom old piece t)) → IsFrontFrom old piece text
    whole (Ok done) (t, is, l) begun = subst (λ w. IsFrontFrom old piece w) (sym (held t is)) (Begins-led old new piece t l)
    whole (Err refusal) led (t, is, b) = subst (λ w. IsFrontFrom old piece w) (sym (held t is)) b

-- a byte that ends no line is kept
pub Leads-kept : (old : Point) (byte : ℕ) → Leads old (byte ∷ []) [] (record { past = old.past; number = old.number; line = old.line ++ byte ∷ [] })
Leads-kept old byte = record { whole = []; parts = refl; ends = refl; goes_on = λ more later gives. gives }

-- nothing leads nowhere
pub Leads-nothing : (old : Point) → Leads old [] [] old
Leads-nothing old = record { whole = []; parts = append-nil old.line; ends = refl; goes_on = λ more later gives. gives }

-- what is read on from a point that a piece led to is read on after that piece's whole lines
reads_on : (line p whole kept q : List ℕ) → line ++ p ≡ whole ++ kept → line ++ (p ++ q) ≡ whole ++ (kept ++ q)
reads_on line p whole kept q parts = sym (append_assoc line p q) ∙ (ap (λ w. w ++ q) parts ∙ append_assoc whole kept q)

prepend-prepend : (first then : List ℕ) (given : Given) → prepend first (prepend then given) ≡ prepend (first ++ then) given
prepend-prepend first then given = ap (λ text. record { text = text; fault = given.fault }) (sym (append_assoc first then given.text))

-- what comes after the whole lines of two pieces
goes_further : (a b c : Point) (p q t u : List ℕ) (first : Leads a p t b) (then : Leads b q u c) (more : List ℕ) (later : Given)
    → Gives c.past c.number (lines_of more) later
    → Gives a.past a.number (lines_of ((first.whole ++ then.whole) ++ more)) (prepend (t ++ u) later)
goes_further a b c p q t u first then more later gives =
    let far = first.goes_on (then.whole ++ more) (prepend u later) (then.goes_on more later gives) in
    subst (λ g. Gives a.past a.number (lines_of ((first.whole ++ then.whole) ++ more)) g) (prepend-prepend t u later)
    (subst (λ bytes. Gives a.past a.number (lines_of bytes) (prepend t (prepend u later))) (sym (append_assoc first.whole then.whole more)) far)

pub Leads-trans : (a b c : Point) (p q t u : List ℕ) → Leads a p t b → Leads b q u c → Leads a (p ++ q) (t ++ u) c
Leads-trans a b c p q t u first then = record {
  whole = first.whole ++ then.whole;
  parts = reads_on a.line p first.whole b.line q first.parts
      ∙ (ap (λ w. first.whole ++ w) then.parts ∙ sym (append_assoc first.whole then.whole c.line));
  ends = ends_line-append first.whole then.whole first.ends then.ends;
  goes_on = goes_further a b c p q t u first then;
}

-- what is given to more bytes, from the point that a piece led to
pub given_at-Leads : (a b : Point) (p q t : List ℕ) (later : Given) → Leads a p t b → GivesAt b q later → GivesAt a (p ++ q) (prepend t later)
given_at-Leads a b p q t later first gives =
    subst (λ w. Gives a.past a.number (lines_of w) (prepend t later)) (sym (reads_on a.line p first.whole b.line q first.parts))
    (first.goes_on (b.line ++ q) later gives)

pub Stops-after : (a b : Point) (p q t u : List ℕ) (refusal : Refusal) → Leads a p t b → Stops b q u refusal → Stops a (p ++ q) (t ++ u) refusal
Stops-after a b p q t u refusal first then = record {
  stops = λ more. subst (λ bytes. GivesAt a bytes (record { text = t ++ u; fault = Some refusal })) (sym (append_assoc p q more))
      (given_at-Leads a b p (q ++ more) t (record { text = u; fault = Some refusal }) first (then.stops more));
}

pub Stops-more : (a : Point) (p q t : List ℕ) (refusal : Refusal) → Stops a p t refusal → Stops a (p ++ q) t refusal
Stops-more a p q t refusal first = record {
  stops = λ more. subst (λ bytes. GivesAt a bytes (record { text = t; fault = Some refusal })) (sym (append_assoc p q more)) (first.stops (q ++ more));
}

-- the front of a text with another text before it
pub front-prepend : (t u : List ℕ) (given : Given) → IsFront u given.text → IsFront (t ++ u) (prepend t given).text
front-prepend t u given front = record { rest = front.rest; joined = ap (λ w. t ++ w) front.joined ∙ sym (append_assoc t u front.rest) }

pub Begins-after : (a b : Point) (p q t u : List ℕ) → Leads a p t b → IsFrontFrom b q u → IsFrontFrom a (p ++ q) (t ++ u)
Begins-after a b p q t u first then = record {
  lines = first.whole ++ then.lines;
  rest = then.rest;
  parts = reads_on a.line p first.whole b.line q first.parts
      ∙ (ap (λ w. first.whole ++ w) then.parts ∙ sym (append_assoc first.whole then.lines then.rest));
  ends = ends_line-append first.whole then.lines first.ends then.ends;
  given = prepend t then.given;
  gives = first.goes_on then.lines then.given then.gives;
  front = front-prepend t u then.given then.front;
}

-- The same with what was written, in the forms that the loop over a piece asks for.

pub not_newline : (byte : ℕ) → (byte ≡ 10 → ⊥) → has_newline (byte ∷ []) ≡ false
not_newline byte h = grind (arith, nat_tests)

-- the byte at i is taken after those before it
pub Leads-next : (a b c : Point) (old mid new : Option (List ℕ)) (piece : List ℕ) (i : ℕ) → i < length piece
    → Written old mid (λ text. Leads a (take i piece) text b) → Written mid new (λ text. Leads b (get_or piece i 0 ∷ []) text c)
    → Written old new (λ text. Leads a (take (i + 1) piece) text c)
Leads-next a b c old mid new piece i within first then = (
  first.0 ++ then.0,
  Appends-trans old mid new first.0 then.0 first.1 then.1,
  rw (take_more piece i 0 within) (Leads-trans a b c (take i piece) (get_or piece i 0 ∷ []) first.0 then.0 first.2 then.2),
)

-- a piece is its bytes up to and with one of them, and those after
piece_is : (piece : List ℕ) (i : ℕ) → i < length piece → piece ≡ (take i piece ++ get_or piece i 0 ∷ []) ++ drop (i + 1) piece
piece_is piece i within = rw (← take_more piece i 0 within) (sym (take-append-drop (i + 1) piece))

pub Stops-next : (a b : Point) (old mid new : Option (List ℕ)) (piece : List ℕ) (i : ℕ) (refusal : Refusal) → i < length piece
    → Written old mid (λ text. Leads a (take i piece) text b) → Written mid new (λ text. Stops b (get_or piece i 0 ∷ []) text refusal)
    → Written old new (λ text. Stops a piece text refusal)
Stops-next a b old mid new piece i refusal within first then = (
  first.0 ++ then.0,
  Appends-trans old mid new first.0 then.0 first.1 then.1,
  (let P : List ℕ → Type 0 = λ p. Stops a p (first.0 ++ then.0) refusal in
      subst P (sym (piece_is piece i within))
      (Stops-more a (take i piece ++ get_or piece i 0 ∷ []) (drop (i + 1) piece) (first.0 ++ then.0) refusal
      (Stops-after a b (take i piece) (get_or piece i 0 ∷ []) first.0 then.0 refusal first.2 then.2))),
)

-- of more bytes
Begins-more : (a : Point) (p q t : List ℕ) → IsFrontFrom a p t → IsFrontFrom a (p ++ q) t
Begins-more a p q t begin = record {
  lines = begin.lines;
  rest = begin.rest ++ q;
  parts = reads_on a.line p begin.lines begin.rest q begin.parts;
  ends = begin.ends;
  given = begin.given;
  gives = begin.gives;
  front = begin.front;
}

pub Begins-next : (a b : Point) (old mid new : Option (List ℕ)) (piece : List ℕ) (i : ℕ) → i < length piece
    → Written old mid (λ text. Leads a (take i piece) text b) → Written mid new (λ text. IsFrontFrom b (get_or piece i 0 ∷ []) text)
    → Written old new (λ text. IsFrontFrom a piece text)
Begins-next a b old mid new piece i within first then = (
  first.0 ++ then.0,
  Appends-trans old mid new first.0 then.0 first.1 then.1,
  (let P : List ℕ → Type 0 = λ p. IsFrontFrom a p (first.0 ++ then.0) in
      subst P (sym (piece_is piece i within))
      (Begins-more a (take i piece ++ get_or piece i 0 ∷ []) (drop (i + 1) piece) (first.0 ++ then.0)
      (Begins-after a b (take i piece) (get_or piece i 0 ∷ []) first.0 then.0 first.2 then.2))),
)

-- a last line that has no end is given what it would be given with one
last_line : (line : List ℕ) → has_newline line ≡ false → (length line ≡ 0 → ⊥) → lines_of (line ++ []) ≡ lines_of (line ++ 10 ∷ [])
last_line [] h some = absurd (some refl)
last_line (byte ∷ line) h some = ap lines_of (append-nil (byte ∷ line)) ∙ (lines_of-last byte line h ∙ sym (lines_of-line (byte ∷ line) [] h))

given-last : (old : Point) (given : Given) → has_newline old.line ≡ false → (length old.line ≡ 0 → ⊥) → GivesAt old (10 ∷ []) given → GivesAt old [] given
given-last old given h some gives = subst (λ lines. Gives old.past old.number lines given) (sym (last_line old.line h some)) gives

pub Leads-last : (old new : Point) (text : List ℕ) → has_newline old.line ≡ false → (length old.line ≡ 0 → ⊥)
    → Leads old (10 ∷ []) text new → new.line ≡ [] → GivesAt old [] (record { text = text; fault = None })
Leads-last old new text h some led empty =
    let none : GivesAt new [] nothing_given = subst (λ line. Gives new.past new.number (lines_of (line ++ [])) nothing_given) (sym empty) refl in
    let all = given_at-Leads old new (10 ∷ []) [] text nothing_given led none in
    given-last old (record { text = text; fault = None }) h some (subst (λ t. GivesAt old (10 ∷ []) (record { text = t; fault = None })) (append-nil text) all)

pub Stops-last : (old : Point) (text : List ℕ) (refusal : Refusal) → has_newline old.line ≡ false → (length old.line ≡ 0 → ⊥)
    → Stops old (10 ∷ []) text refusal → GivesAt old [] (record { text = text; fault = Some refusal })
Stops-last old text refusal h some stop = given-last old (record { text = text; fault = Some refusal }) h some (stop.stops [])

tail_is : {x y : ℕ} {xs ys : List ℕ} → x ∷ xs ≡ y ∷ ys → xs ≡ ys
tail_is is = ap tail is
  where
    tail : List ℕ → List ℕ
    tail [] = []
    tail (x ∷ xs) = xs

head_is : {x y : ℕ} {xs ys : List ℕ} → x ∷ xs ≡ y ∷ ys → x ≡ y
head_is {x = x} is = ap head is
  where
    head : List ℕ → ℕ
    head [] = x
    head (x ∷ xs) = x

-- whole lines at the front of one line with its end are none, or all of it
cut : (line lines rest : List ℕ) → line ++ 10 ∷ [] ≡ lines ++ rest → ends_line lines ≡ true → has_newline line ≡ false → (lines ≡ []) ⊎ (rest ≡ [])
cut line [] rest is ends h = inl refl
cut [] (x ∷ []) rest is ends h = inr (sym (tail_is is))
cut [] (x ∷ (y ∷ ys)) rest is ends h = absurd cc
cut (byte ∷ line) (x ∷ []) rest is ends h =
    absurd (true≢false (sym ends ∙ (ap (λ b. b == 10) (sym (head_is is)) ∙ or_false_left (byte == 10) (has_newline line) h)))
cut (byte ∷ line) (x ∷ (y ∷ ys)) rest is ends h = shorter (cut line (y ∷ ys) rest (tail_is is) ends (or_false_right (byte == 10) (has_newline line) h))
  where
    shorter : (y ∷ ys ≡ []) ⊎ (rest ≡ []) → (x ∷ (y ∷ ys) ≡ []) ⊎ (rest ≡ [])
    shorter (inl none) = absurd cc
    shorter (inr none) = inr none

pub Begins-last : (old : Point) (text : List ℕ) → has_newline old.line ≡ false → (length old.line ≡ 0 → ⊥)
    → IsFrontFrom old (10 ∷ []) text → GivesFront old.past old.number old.line text
Begins-last old text h some begin = by (cut old.line begin.lines begin.rest begin.parts begin.ends h)
  where
    by : (begin.lines ≡ []) ⊎ (begin.rest ≡ []) → GivesFront old.past old.number old.line text
    by (inl none) = record {
      lines = [];
      rest = old.line;
      parts = refl;
      whole = inl refl;
      given = begin.given;
      gives = subst (λ lines. Gives old.past old.number (lines_of lines) begin.given) none begin.gives;
      front = begin.front;
    }
    by (inr none) = record {
      lines = old.line;
      rest = [];
      parts = sym (append-nil old.line);
      whole = inr refl;
      given = begin.given;
      gives = subst (λ lines. Gives old.past old.number (lines_of lines) begin.given) (append-nil old.line)
          (given-last old begin.given h some (subst (λ bytes. Gives old.past old.number (lines_of bytes) begin.given)
          (sym (begin.parts ∙ (ap (λ r. begin.lines ++ r) none ∙ append-nil begin.lines))) begin.gives));
      front = begin.front;
    }

-- a length that is not 0, by the test
pub nonzero : (tested len : ℕ) → false ≡ (tested == 0) → tested ≡ len → len ≡ 0 → ⊥
nonzero tested len h same zero = grind (arith, nat_tests)
