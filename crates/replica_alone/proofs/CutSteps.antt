-- A step of a replica for which deltas wait, told backwards: where a flush came among what waits after it, it came among what waited before it, or comes
-- right after it.
use Rattle.std.proofs.Common.{◌≡◌, ◌⊎◌, inl, inr, ℕ, ◌≤◌, List, [], ◌∷◌, ◌++◌, length, not, refl, sym, ap, ◌∙◌, subst}
use Rattle.std.proofs.Common.{append_assoc, arith}
use Rattle.std.proofs.lemmas.List.{append-nil}
use Rattle.std.proofs.lemmas.List.Elements.{filter-append}
use Rattle.op_model.specs.Meaning.{MapState, greater}
use Rattle.op_model.specs.State.{join, IsInside}
use Rattle.replica_model.specs.Alone.{Deed, Calls, Comes, act_of}
use Rattle.replica_model.specs.Mail.{Mail}
use Rattle.replica_model.specs.Replica.{Replica}
use Rattle.replica_model.specs.Step.{Call, Put, Remove, RemoveField, Clear, Flush, Ask, Retry, Abandon, Restart, Answer, Nothing, IsCall, IsStep}
use Rattle.replica_model.specs.Step.{KnowsNone}
use Rattle.replica_alone.specs.Waiting.{all_of, Queues, Waits}
use Rattle.replica_alone.specs.Cutting.{is_flush, but_flushes}
use Rattle.replica_alone.proofs.CutGroups.{with_group, taken_at, asked_at, retried_at, abandoned_at, IsWriteAt, write_at}
use Rattle.replica_alone.proofs.CutDeltas.{all_of_more, all_of_one, AreInside, all_inside, inside_more, join_nothing}
use Rattle.replica_alone.proofs.CutParts.{SameMails, mails_same, mails_then, mails_both, mails_turned, Piece, Queued, Went, queued, behind, went, Flushes, Fit}
use Rattle.replica_alone.proofs.CutParts.{more, more_queued, more_behind, more_went, more_fit, not_nothing, last_one, few_behind, few_went}
use Rattle.replica_alone.proofs.CutRuns.{RunsSending, runs_one, runs_then, runs_same}

-- the replica with the join of these to send
abbrev pub grouped : Replica → List MapState → Replica
grouped r ws = with_group (all_of ws) r

-- a replica is one with that to send what it is to send
pub grouped_is : (r : Replica) (g : MapState) → r.group ≡ g → r ≡ with_group g r
grouped_is r g e = λ i. record r { group = e i }

-- deeds with the flushes left out, one list behind another
pub but_flushes_then : (ds es : List Deed) → but_flushes (ds ++ es) ≡ but_flushes ds ++ but_flushes es
but_flushes_then ds es = filter-append (λ d. not (is_flush d)) ds es

module _ (hash_of : List ℕ → ℕ) where
  -- where flushes came so among what waits after a deed, these came among what waited before it, and the deed with flushes behind it leads on
  pub record IsBack (r : Replica) (ws : List MapState) (d : Deed) (next : Replica) (now : List Mail) (after : List Piece) : Type 0 where
    pub before : List Piece
    pub fit : Fit before
    pub waited : queued before ≡ ws
    pub deeds : List Deed
    pub out : List Mail
    pub runs : RunsSending hash_of (grouped r (behind before)) deeds (grouped next (behind after)) out
    pub alike : but_flushes deeds ≡ but_flushes (d ∷ [])
    pub mails : SameMails (went before ++ out) (now ++ went after)

  -- however flushes came among what waits after a deed; and what stands in it is known
  pub record GoesBack (r : Replica) (ws : List MapState) (d : Deed) (next : Replica) (now : List Mail) (left : List MapState) : Type 0 where
    pub inside : AreInside left
    pub back : (after : List Piece) → Fit after → queued after ≡ left → IsBack r ws d next now after

  -- a flush of what was made, at any replica
  flush_at : (r : Replica) (ws : List MapState) (out : List Mail) → Flushes ws out
      → RunsSending hash_of (grouped r ws) (Calls Flush ∷ []) (grouped r []) out
  flush_at r ws out (inl (none, same, o)) =
      runs_one hash_of (grouped r ws) (Calls Flush) (grouped r []) Nothing out (refl, inl (none, (λ i. with_group (sym same i) r), o))
  flush_at r ws out (inr (some, o)) = runs_one hash_of (grouped r ws) (Calls Flush) (grouped r []) Nothing out (refl, inr (some, refl, o))

  module _ (r : Replica) (ws : List MapState) (d : Deed) (next : Replica) (now : List Mail) where
    -- a flush behind all comes behind the deeds
    then_flush : (ps : List Piece) (out : List Mail) → Flushes (behind ps) out → IsBack r ws d next now ps → IsBack r ws d next now (Went out ∷ ps)
    then_flush ps out sends b = record {
      before = b.before;
      fit = b.fit;
      waited = b.waited;
      deeds = b.deeds ++ Calls Flush ∷ [];
      out = b.out ++ out;
      runs = runs_then hash_of b.deeds (Calls Flush ∷ []) (grouped r (behind b.before)) (grouped next (behind ps)) (grouped next []) b.out out b.runs
          (flush_at next (behind ps) out sends);
      alike = but_flushes_then b.deeds (Calls Flush ∷ []) ∙ append-nil (but_flushes b.deeds) ∙ b.alike;
      mails = mails_then (went b.before ++ (b.out ++ out)) ((went b.before ++ b.out) ++ out) (now ++ (went ps ++ out))
          (mails_same (went b.before ++ (b.out ++ out)) ((went b.before ++ b.out) ++ out) (sym (append_assoc (went b.before) b.out out)))
          (mails_then ((went b.before ++ b.out) ++ out) ((now ++ went ps) ++ out) (now ++ (went ps ++ out))
          (mails_both (went b.before ++ b.out) (now ++ went ps) out out b.mails (mails_same out out refl))
          (mails_same ((now ++ went ps) ++ out) (now ++ (went ps ++ out)) (append_assoc now (went ps) out)));
    }

    module _ (answer : Answer) (step : IsStep hash_of r (act_of d) next answer now) (group : r.group ≡ all_of ws) where
      -- all that waits after it is behind the last flush: the deed itself
      whole_back : (left : List MapState) → next.group ≡ all_of left → (after : List Piece) → behind after ≡ left → went after ≡ []
          → IsBack r ws d next now after
      whole_back left grouped_so after all none =
          let before : behind (more ws []) ≡ ws = more_behind ws [] in
          let then : next.group ≡ all_of (behind after) = grouped_so ∙ sym (ap all_of all) in
          record {
            before = more ws [];
            fit = more_fit ws [] tt;
            waited = more_queued ws [];
            deeds = d ∷ [];
            out = now;
            runs = runs_same hash_of (d ∷ []) r (grouped r (behind (more ws []))) next (grouped next (behind after)) now
                (grouped_is r (all_of (behind (more ws []))) (group ∙ sym (ap all_of before))) (grouped_is next (all_of (behind after)) then)
                (runs_one hash_of r d next answer now step);
            alike = refl;
            mails = mails_same (went (more ws []) ++ now) (now ++ went after)
                (ap (λ xs. xs ++ now) (more_went ws []) ∙ sym (ap (λ xs. now ++ xs) none ∙ append-nil now));
          }

      -- so it is where one delta waits at most
      few_back : (left : List MapState) → next.group ≡ all_of left → length left ≤ 1 → (after : List Piece) → Fit after → queued after ≡ left
          → IsBack r ws d next now after
      few_back left so few [] f e = whole_back left so [] e refl
      few_back left so few (Queued delta ∷ ps) f e =
          let P : List MapState → Type 0 = λ l. length l ≤ 1 in
          let one : length (queued ps ++ delta ∷ []) ≤ 1 = subst P (sym e) few in
          whole_back left so (Queued delta ∷ ps) (few_behind ps delta one ∙ e) (few_went ps delta f one)
      few_back left so few (Went out ∷ ps) (sends, f) e = then_flush ps out sends (few_back left so few ps f e)

    -- a deed that is the same whatever is to be sent
    module _ (answer : Answer) (steps : (g : MapState) → IsStep hash_of (with_group g r) (act_of d) (with_group g next) answer now) where
      same_back : (after : List Piece) → Fit after → queued after ≡ ws → IsBack r ws d next now after
      same_back after f e = record {
        before = after;
        fit = f;
        waited = e;
        deeds = d ∷ [];
        out = now;
        runs = runs_one hash_of (grouped r (behind after)) d (grouped next (behind after)) answer now (steps (all_of (behind after)));
        alike = refl;
        mails = mails_turned (went after) now;
      }

    -- a deed that joins a delta to what is to be sent
    module _ (answer : Answer) (delta : MapState)
        (steps : (g : MapState) → IsStep hash_of (with_group g r) (act_of d) (with_group (join greater g delta) next) answer now) where
      -- and the delta comes behind all that waits
      more_back : (after : List Piece) → Fit after → queued after ≡ ws ++ delta ∷ [] → IsBack r ws d next now after
      more_back [] f e = not_nothing ws delta (sym e)
      more_back (Queued last ∷ ps) f e =
          let both = last_one (queued ps) ws last delta e in
          let same : join greater (all_of (behind ps)) delta ≡ all_of (behind ps ++ last ∷ []) =
          ap (λ x. join greater (all_of (behind ps)) x) (sym both.1) ∙ sym (all_of_more (behind ps) last) in
          let P : MapState → Type 0 = λ g. IsStep hash_of (grouped r (behind ps)) (act_of d) (with_group g next) answer now in
          record {
            before = ps;
            fit = f;
            waited = both.0;
            deeds = d ∷ [];
            out = now;
            runs = runs_one hash_of (grouped r (behind ps)) d (grouped next (behind ps ++ last ∷ [])) answer now
                (subst P same (steps (all_of (behind ps))));
            alike = refl;
            mails = mails_turned (went ps) now;
          }
      more_back (Went out ∷ ps) (sends, f) e = then_flush ps out sends (more_back ps f e)

  -- ---- the writes

  -- one is one at most, and none is
  one_few : (delta : MapState) → length (delta ∷ []) ≤ 1
  one_few delta = omega arith

  nothing_few : (left : List MapState) → left ≡ [] → length left ≤ 1
  nothing_few left e = let P : List MapState → Type 0 = λ l. length l ≤ 1 in subst P (sym e) (omega arith)

  -- of a write, the delta of which comes behind all that waits, or is joined with it into one, or knows no dot
  write_back : (r next : Replica) (c : Call) (answer : Answer) (now : List Mail) (ws left : List MapState) → IsCall r c next answer now → r.group ≡ all_of ws
      → next.group ≡ all_of left → AreInside ws → (delta : MapState) → IsWriteAt r c next answer now delta → Queues ws delta left
      → GoesBack r ws (Calls c) next now left
  write_back r next c answer now ws left step group so are delta w (inl e) =
      let P : List MapState → Type 0 = λ l. AreInside l in
      record {
        inside = subst P (sym e) (inside_more ws delta are w.inside);
        back = λ after f q. more_back r ws (Calls c) next now answer delta w.anywhere after f (q ∙ e);
      }
  write_back r next c answer now ws left step group so are delta w (inr (inl (many, e))) =
      let P : List MapState → Type 0 = λ l. AreInside l in
      let Q : List MapState → Type 0 = λ l. length l ≤ 1 in
      let joined = all_of (ws ++ delta ∷ []) in
      record {
        inside = subst P (sym e) (all_inside (ws ++ delta ∷ []) (inside_more ws delta are w.inside), tt);
        back = few_back r ws (Calls c) next now answer step group left so (subst Q (sym e) (one_few joined));
      }
  write_back r next c answer now ws left step group so are delta w (inr (inr (none, e))) =
      let P : List MapState → Type 0 = λ l. AreInside l in
      let steps : (g : MapState) → IsCall (with_group g r) c (with_group g next) answer now = λ g.
      let F : MapState → Type 0 = λ x. IsCall (with_group g r) c (with_group x next) answer now in
      subst F (join_nothing g delta w.inside none) (w.anywhere g) in
      record {
        inside = subst P (sym e) are;
        back = λ after f q. same_back r ws (Calls c) next now answer steps after f (q ∙ e);
      }

  -- ---- the deeds that leave what waits

  -- of a deed that leaves what waits
  left_back : (r next : Replica) (d : Deed) (answer : Answer) (now : List Mail) (ws left : List MapState) → AreInside ws → left ≡ ws
      → ((g : MapState) → IsStep hash_of (with_group g r) (act_of d) (with_group g next) answer now) → GoesBack r ws d next now left
  left_back r next d answer now ws left are e steps =
      let P : List MapState → Type 0 = λ l. AreInside l in
      record {
        inside = subst P (sym e) are;
        back = λ after f q. same_back r ws d next now answer steps after f (q ∙ e);
      }

  -- a flush that sends nothing is left out
  dropped_back : (r next : Replica) (now : List Mail) (ws left : List MapState) → AreInside ws → left ≡ ws → next ≡ r → now ≡ []
      → GoesBack r ws (Calls Flush) next now left
  dropped_back r next now ws left are e same none =
      let P : List MapState → Type 0 = λ l. AreInside l in
      record {
        inside = subst P (sym e) are;
        back = λ after f q. record {
          before = after;
          fit = f;
          waited = q ∙ e;
          deeds = [];
          out = [];
          runs = (ap (with_group (all_of (behind after))) same, refl);
          alike = refl;
          mails = mails_same (went after ++ []) (now ++ went after) (append-nil (went after) ∙ sym (ap (λ xs. xs ++ went after) none));
        };
      }

  -- of a flush, after which none waits, or all that waits knows no dot
  flush_back : (r next : Replica) (answer : Answer) (now : List Mail) (ws left : List MapState) → IsCall r Flush next answer now → r.group ≡ all_of ws
      → next.group ≡ all_of left → AreInside ws → (KnowsNone (all_of ws) × (left ≡ ws)) ⊎ (left ≡ []) → GoesBack r ws (Calls Flush) next now left
  flush_back r next answer now ws left (a, inl (none, same, o)) group so are (inl (known, e)) = dropped_back r next now ws left are e same o
  flush_back r next answer now ws left (a, inr (some, same, o)) group so are (inl (known, e)) =
      let P : MapState → Type 0 = λ p. KnowsNone p in
      absurd (some (subst P (sym group) known))
  flush_back r next answer now ws left step group so are (inr e) =
      let P : List MapState → Type 0 = λ l. AreInside l in
      record {
        inside = subst P (sym e) tt;
        back = few_back r ws (Calls Flush) next now answer step group left so (nothing_few left e);
      }

  -- what one delta holds is what is to be sent
  few_inside : (left : List MapState) → length left ≤ 1 → IsInside (all_of left) → AreInside left
  few_inside [] few f = tt
  few_inside (delta ∷ []) few f = let P : MapState → Type 0 = λ p. IsInside p in (subst P (all_of_one delta) f, tt)
  few_inside (delta ∷ d ∷ left) few f = absurd (omega arith)

  -- of a restart, after which one waits at most
  restart_back : (r next : Replica) (answer : Answer) (now : List Mail) (ws left : List MapState) → IsCall r Restart next answer now → r.group ≡ all_of ws
      → next.group ≡ all_of left → AreInside ws → length left ≤ 1 → GoesBack r ws (Calls Restart) next now left
  restart_back r next answer now ws left step group so are few =
      let P : MapState → Type 0 = λ p. IsInside p in
      let same : all_of ws ≡ all_of left = sym group ∙ sym (ap (λ (q : Replica). q.group) step.0) ∙ so in
      record {
        inside = few_inside left few (subst P same (all_inside ws are));
        back = few_back r ws (Calls Restart) next now answer step group left so few;
      }

  -- ---- each deed

  -- of each deed
  pub deed_back : (r next : Replica) (d : Deed) (answer : Answer) (now : List Mail) (ws left : List MapState) → IsStep hash_of r (act_of d) next answer now
      → r.group ≡ all_of ws → next.group ≡ all_of left → AreInside ws → Waits r (act_of d) ws left → GoesBack r ws d next now left
  deed_back r next (Calls (Put place value)) answer now ws left step group so are (delta, is, queues) =
      write_back r next (Put place value) answer now ws left step group so are delta (write_at r next (Put place value) answer now delta step is) queues
  deed_back r next (Calls (Remove key)) answer now ws left step group so are (delta, is, queues) =
      write_back r next (Remove key) answer now ws left step group so are delta (write_at r next (Remove key) answer now delta step is) queues
  deed_back r next (Calls (RemoveField place)) answer now ws left step group so are (delta, is, queues) =
      write_back r next (RemoveField place) answer now ws left step group so are delta (write_at r next (RemoveField place) answer now delta step is) queues
  deed_back r next (Calls Clear) answer now ws left step group so are (delta, is, queues) =
      write_back r next Clear answer now ws left step group so are delta (write_at r next Clear answer now delta step is) queues
  deed_back r next (Calls Flush) answer now ws left step group so are waits = flush_back r next answer now ws left step group so are waits
  deed_back r next (Calls (Ask peer)) answer now ws left step group so are e =
      left_back r next (Calls (Ask peer)) answer now ws left are e (λ g. asked_at g r next peer answer now step)
  deed_back r next (Calls (Retry number)) answer now ws left step group so are e =
      left_back r next (Calls (Retry number)) answer now ws left are e (λ g. retried_at g r next number answer now step)
  deed_back r next (Calls (Abandon number)) answer now ws left step group so are e =
      left_back r next (Calls (Abandon number)) answer now ws left are e (λ g. abandoned_at g r next number answer now step)
  deed_back r next (Calls Restart) answer now ws left step group so are few = restart_back r next answer now ws left step group so are few
  deed_back r next (Comes mail of) answer now ws left step group so are e =
      left_back r next (Comes mail of) answer now ws left are e (λ g. taken_at hash_of g r next mail answer now step)
