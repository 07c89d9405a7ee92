-- A replica that sends what waits in parts is as one that flushed earlier: the deeds of the one are found from the other's, from the last to the first.
use Rattle.std.proofs.Common.{◌≡◌, ℕ, List, [], ◌∷◌, ◌++◌, refl, sym, ap, ◌∙◌, subst, append_assoc}
use Rattle.std.proofs.lemmas.List.{append-nil}
use Rattle.op_model.specs.Meaning.{MapState}
use Rattle.replica_model.specs.Alone.{Deed}
use Rattle.replica_model.specs.Mail.{Mail}
use Rattle.replica_model.specs.Replica.{Replica, fresh}
use Rattle.replica_model.specs.World.{nothing}
use Rattle.replica_alone.specs.Waiting.{all_of, IsCut}
use Rattle.replica_alone.specs.Cutting.{Cutting, Does, Cuts, deeds_of, but_flushes, RunsCutting, CutsAreFlushes}
use Rattle.replica_alone.proofs.CutDeltas.{AreInside, inside_parts}
use Rattle.replica_alone.proofs.CutParts.{SameMails, mails_same, mails_then, mails_both, Piece, Went, queued, behind, went, Fit, flushes_sent}
use Rattle.replica_alone.proofs.CutParts.{more, more_queued, more_behind, more_went, more_fit, queued_after, went_after, behind_after, fit_after, Flushes}
use Rattle.replica_alone.proofs.CutParts.{none_behind, none_went}
use Rattle.replica_alone.proofs.CutRuns.{RunsSending, runs_then, runs_same, mails_of, run_alone}
use Rattle.replica_alone.proofs.CutSteps.{grouped, grouped_is, but_flushes_then, deed_back}

module _ (hash_of : List ℕ → ℕ) where
  -- flushes came somewhere among what waits, and from there deeds lead on that are alike but for the flushes, by which the same is sent
  record IsEarlier (r : Replica) (ws : List MapState) (cs : List Cutting) (s : Replica) (sent : List Mail) : Type 0 where
    before : List Piece
    fit : Fit before
    waited : queued before ≡ ws
    deeds : List Deed
    out : List Mail
    runs : RunsSending hash_of (grouped r (behind before)) deeds s out
    alike : but_flushes deeds ≡ but_flushes (deeds_of cs)
    mails : SameMails (went before ++ out) sent

  -- of nothing that happens
  at_end : (r : Replica) (ws : List MapState) (s : Replica) (sent : List Mail) → r.group ≡ all_of ws → s ≡ r → sent ≡ [] → IsEarlier r ws [] s sent
  at_end r ws s sent group same none = record {
    before = more ws [];
    fit = more_fit ws [] tt;
    waited = more_queued ws [];
    deeds = [];
    out = [];
    runs = (same ∙ grouped_is r (all_of (behind (more ws []))) (group ∙ sym (ap all_of (more_behind ws []))), refl);
    alike = refl;
    mails = mails_same (went (more ws []) ++ []) sent (append-nil (went (more ws [])) ∙ more_went ws [] ∙ sym none);
  }

  -- of a cut, and what happens then: the flush comes behind the first of what waits
  at_cut : (r : Replica) (ws : List MapState) (cs : List Cutting) (next s : Replica) (left : List MapState) (now later sent : List Mail) → AreInside ws
      → IsCut r ws next left now → IsEarlier next left cs s later → sent ≡ now ++ later → IsEarlier r ws (Cuts ∷ cs) s sent
  at_cut r ws cs next s left now later sent are cut b e =
      let P : List MapState → Type 0 = λ l. AreInside l in
      let both = inside_parts cut.first left (subst P cut.parts are) in
      let old = more cut.first [] in
      let first : behind old ≡ cut.first = more_behind cut.first [] in
      let F : List MapState → Type 0 = λ l. Flushes l now in
      let sends : Flushes (behind old) now = subst F (sym first) (flushes_sent cut.first now both.0 cut.sent) in
      let before = b.before ++ Went now ∷ old in
      let same : behind before ≡ behind b.before = behind_after b.before old now in
      let mails : went before ≡ now ++ went b.before =
      went_after b.before (Went now ∷ old) ∙ ap (λ xs. (xs ++ now) ++ went b.before) (more_went cut.first []) in
      record {
        before = before;
        fit = fit_after b.before old now b.fit sends (more_fit cut.first [] tt);
        waited = queued_after b.before (Went now ∷ old) ∙ (λ i. more_queued cut.first [] i ++ b.waited i) ∙ sym cut.parts;
        deeds = b.deeds;
        out = b.out;
        runs = runs_same hash_of b.deeds (grouped next (behind b.before)) (grouped r (behind before)) s s b.out
            ((λ i. grouped (cut.becomes i) (behind b.before)) ∙ ap (grouped r) (sym same)) refl b.runs;
        alike = b.alike;
        mails = mails_then (went before ++ b.out) (now ++ (went b.before ++ b.out)) sent
            (mails_same (went before ++ b.out) (now ++ (went b.before ++ b.out))
            (ap (λ xs. xs ++ b.out) mails ∙ append_assoc now (went b.before) b.out))
            (mails_then (now ++ (went b.before ++ b.out)) (now ++ later) sent
            (mails_both now now (went b.before ++ b.out) later (mails_same now now refl) b.mails)
            (mails_same (now ++ later) sent (sym e)));
      }

  -- of all that happens
  earlier : (cs : List Cutting) (r : Replica) (ws : List MapState) (s : Replica) (left : List MapState) (sent : List Mail) → r.group ≡ all_of ws
      → AreInside ws → RunsCutting hash_of r ws cs s left sent → IsEarlier r ws cs s sent
  earlier [] r ws s left sent group are (same, e, none) = at_end r ws s sent group same none
  earlier (Cuts ∷ cs) r ws s left sent group are (next, then, now, later, cut, rest, e) =
      let P : List MapState → Type 0 = λ l. AreInside l in
      let both = inside_parts cut.first then (subst P cut.parts are) in
      at_cut r ws cs next s then now later sent are cut
      (earlier cs next then s left later (ap (λ (q : Replica). q.group) cut.becomes) both.1 rest) e
  earlier (Does d ∷ cs) r ws s left sent group are (next, then, now, later, (answer, step, waits, so), rest, e) =
      let goes = deed_back hash_of r next d answer now ws then step group so are waits in
      let there = earlier cs next then s left later so goes.inside rest in
      let here = goes.back there.before there.fit there.waited in
      record {
        before = here.before;
        fit = here.fit;
        waited = here.waited;
        deeds = here.deeds ++ there.deeds;
        out = here.out ++ there.out;
        runs = runs_then hash_of here.deeds there.deeds (grouped r (behind here.before)) (grouped next (behind there.before)) s here.out there.out
            here.runs there.runs;
        alike = but_flushes_then here.deeds there.deeds ∙ (λ i. here.alike i ++ there.alike i) ∙ sym (but_flushes_then (d ∷ []) (deeds_of cs));
        mails = mails_then (went here.before ++ (here.out ++ there.out)) ((went here.before ++ here.out) ++ there.out) sent
            (mails_same (went here.before ++ (here.out ++ there.out)) ((went here.before ++ here.out) ++ there.out)
            (sym (append_assoc (went here.before) here.out there.out)))
            (mails_then ((went here.before ++ here.out) ++ there.out) ((now ++ went there.before) ++ there.out) sent
            (mails_both (went here.before ++ here.out) (now ++ went there.before) there.out there.out here.mails (mails_same there.out there.out refl))
            (mails_then ((now ++ went there.before) ++ there.out) (now ++ (went there.before ++ there.out)) sent
            (mails_same ((now ++ went there.before) ++ there.out) (now ++ (went there.before ++ there.out))
            (append_assoc now (went there.before) there.out))
            (mails_then (now ++ (went there.before ++ there.out)) (now ++ later) sent
            (mails_both now now (went there.before ++ there.out) later (mails_same now now refl) there.mails)
            (mails_same (now ++ later) sent (sym e)))));
      }

-- from the fresh replica on, for which none waits and so none went
pub cuts_are_flushes : CutsAreFlushes
cuts_are_flushes hash_of name cs s left sent runs =
    let b = earlier hash_of cs (fresh name) [] s left sent refl tt runs in
    let none : behind b.before ≡ [] = none_behind b.before b.waited in
    let start : grouped (fresh name) (behind b.before) ≡ fresh name = ap (grouped (fresh name)) none in
    let v = run_alone hash_of name b.deeds nothing s b.out
    (runs_same hash_of b.deeds (grouped (fresh name) (behind b.before)) (fresh name) s s b.out start refl b.runs) in
    record {
      deeds = b.deeds;
      world = v.world;
      runs = v.runs;
      replica = v.replica;
      alike = b.alike;
      messages = mails_then (mails_of v.world.messages) (went b.before ++ b.out) sent
          (mails_same (mails_of v.world.messages) (went b.before ++ b.out)
          (v.mails ∙ sym (ap (λ xs. xs ++ b.out) (none_went b.before b.fit b.waited)))) b.mails;
    }
