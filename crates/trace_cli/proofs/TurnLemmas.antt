-- The reads of a run, one more at a time, and what was written between them: over plain variables.
use Rattle.std.proofs.Common.{◌≡◌, ℕ, ◌<◌, length, true, false, List, [], ◌∷◌, ◌++◌, Option, Result, refl, sym, ◌∙◌, ap, subst, append_assoc}
use Rattle.std.proofs.lemmas.List.{append-nil}
use Rattle.std_io.specs.declared.io.error.Error.{Error}
use Rattle.trace_cli.specs.declared.watched.Watched.{Watched}
use Rattle.trace_cli.specs.Reads.{Reading, bytes_given, all_given, ReadsLead}
use Rattle.trace_cli.specs.Streams.{Written}
use Rattle.trace_cli.specs.Watched.{inner_of, is_flushed}
use Rattle.trace_cli.proofs.StreamLemmas.{Appends-nothing, Appends-trans}
use Rattle.trace_cli.specs.Lines.{has_newline}
use Rattle.trace_cli.specs.TraceRun.{Point, start_point, point_of, Leads}
use Rattle.trace_cli.specs.Turns.{AnswersAll, AreInTurn}
use Rattle.trace_cli.specs.declared.trace_run.TraceRun.{TraceRun}
use Rattle.trace_cli.proofs.LineLemmas.{Leads-nothing, Leads-trans}
use Rattle.trace_cli.proofs.RunLemmas.{answered_at}

-- one read more
ReadsLead-more : {R W : Type 0} (gives : R → R → Watched W → Result ℕ Error → List ℕ → Type 0) (first last next : R) (rs : List (Reading W)) (r : Reading W)
    → ReadsLead gives first rs last → gives last next r.beside r.result r.piece → ReadsLead gives first (rs ++ r ∷ []) next
ReadsLead-more gives first last next [] r led gave = subst (λ s. (mid : _) × gives s mid r.beside r.result r.piece × (mid ≡ next)) (sym led) (next, gave, refl)
ReadsLead-more gives first last next (q ∷ rs) r (mid, here, led) gave = (mid, here, ReadsLead-more gives mid last next rs r led gave)

all_given-more : {W : Type 0} (rs : List (Reading W)) (r : Reading W) → all_given (rs ++ r ∷ []) ≡ all_given rs ++ bytes_given r.result r.piece
all_given-more [] r = append-nil (bytes_given r.result r.piece)
all_given-more (q ∷ rs) r =
    ap (λ bytes. bytes_given q.result q.piece ++ bytes) (all_given-more rs r)
    ∙ sym (append_assoc (bytes_given q.result q.piece) (all_given rs) (bytes_given r.result r.piece))

AreInTurn-more : {W : Type 0} (contents : W → Option (List ℕ)) (old : Option (List ℕ)) (read : List ℕ) (rs : List (Reading W)) (r : Reading W)
    → AreInTurn contents old read rs → 0 < length r.piece → AnswersAll contents old r.beside (read ++ all_given rs) → AreInTurn contents old read (rs ++ r ∷ [])
AreInTurn-more contents old read [] r turns room all = (room, subst (λ bytes. AnswersAll contents old r.beside bytes) (append-nil read) all, tt)
AreInTurn-more contents old read (q ∷ rs) r (asked, before, turns) room all =
    let more = bytes_given q.result q.piece in (
      asked,
      before,
      AreInTurn-more contents old (read ++ more) rs r turns room
          (subst (λ bytes. AnswersAll contents old r.beside bytes) (sym (append_assoc read more (all_given rs))) all),
    )

module _ {R W : Type 0} (gives : R → R → Watched W → Result ℕ Error → List ℕ → Type 0) (contents : W → Option (List ℕ)) where
  -- the reads so far, each in turn, led to this point by writing what was written
  abbrev pub Turned : R → R → Option (List ℕ) → Option (List ℕ) → Point → Type 0
  Turned first last wo wn point =
      (reads : List (Reading W)) × ReadsLead gives first reads last × AreInTurn contents wo [] reads
      × Written wo wn (λ text. Leads start_point (all_given reads) text point)

  -- the writer has answered all lines whose ends were read
  Turned-answered : (first last : R) (wo : Option (List ℕ)) (writer : Watched W) (point : Point)
      (turned : Turned first last wo (contents (inner_of writer)) point)
      → is_flushed writer ≡ true → has_newline point.line ≡ false → AnswersAll contents wo writer (all_given turned.0)
  Turned-answered first last wo writer point turned flushed no_end =
      let written = turned.3 in
      (flushed, answered_at (all_given turned.0) written.0 wo (contents (inner_of writer)) point written.2 written.1 no_end)

  -- and the next read
  pub Turned-read : (first last next : R) (wo : Option (List ℕ)) (writer : Watched W) (point : Point) (result : Result ℕ Error) (piece : List ℕ)
      → Turned first last wo (contents (inner_of writer)) point → is_flushed writer ≡ true → has_newline point.line ≡ false → 0 < length piece
      → gives last next writer result piece → (reads : List (Reading W)) × ReadsLead gives first reads next × AreInTurn contents wo [] reads
  Turned-read first last next wo writer point result piece turned flushed no_end room gave =
      let r : Reading W = record { beside = writer; result = result; piece = piece } in
      let all = Turned-answered first last wo writer point turned flushed no_end in
      (turned.0 ++ r ∷ [], ReadsLead-more gives first last next turned.0 r turned.1 gave, AreInTurn-more contents wo [] turned.0 r turned.2 room all)

  -- and the answers to what it gave
  pub Turned-more : (first last next : R) (wo wn : Option (List ℕ)) (writer : Watched W) (point new : Point) (result : Result ℕ Error) (piece : List ℕ)
      → Turned first last wo (contents (inner_of writer)) point → is_flushed writer ≡ true → has_newline point.line ≡ false → 0 < length piece
      → gives last next writer result piece → Written (contents (inner_of writer)) wn (λ text. Leads point (bytes_given result piece) text new)
      → Turned first next wo wn new
  Turned-more first last next wo wn writer point new result piece turned flushed no_end room gave then =
      let r : Reading W = record { beside = writer; result = result; piece = piece } in
      let all = Turned-answered first last wo writer point turned flushed no_end in
      let written = turned.3 in (
        turned.0 ++ r ∷ [],
        ReadsLead-more gives first last next turned.0 r turned.1 gave,
        AreInTurn-more contents wo [] turned.0 r turned.2 room all,
        (
          written.0 ++ then.0,
          Appends-trans wo (contents (inner_of writer)) wn written.0 then.0 written.1 then.1,
          subst (λ bytes. Leads start_point bytes (written.0 ++ then.0) new) (sym (all_given-more turned.0 r))
              (Leads-trans start_point point new (all_given turned.0) (bytes_given result piece) written.0 then.0 written.2 then.2),
        ),
      )

  -- nothing was read or written yet
  pub Turned-start : {A : Type 0} (first : R) (wo : Option (List ℕ)) (trace_run : TraceRun A) → point_of trace_run ≡ start_point
      → Turned first first wo wo (point_of trace_run)
  Turned-start first wo trace_run at_start =
      let P : Point → Type 0 = λ point. Turned first first wo wo point in
      subst P (sym at_start) ([], refl, tt, ([], Appends-nothing wo, Leads-nothing start_point))
