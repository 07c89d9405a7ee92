-- A replica by itself holds the state of what it has seen.
use Rattle.std.proofs.Common.{◌≡◌, inl, inr, ℕ, List, [], ◌∷◌, ◌++◌, map, Bool, true, false, cond, refl, sym, ap, ◌∙◌, subst}
use Rattle.std.specs.Prelude.{Contains, ◌==◌}
use Rattle.std.proofs.lemmas.List.Elements.{Contains-append_left, Contains-append_right, Contains-append_cases}
use Rattle.op_model.specs.Made.{put_at, remove_at, remove_field_at, clear_at}
use Rattle.op_model.specs.Operation.{Operation, Erased, NoReuse, IsPartOf, ids}
use Rattle.op_model.specs.Shown.{shown, shown_within, shown_anywhere}
use Rattle.op_model.specs.World.{grown, emptied}
use Rattle.op_model.proofs.Fresh.{put-new, erasure-new, NoReuse-part, part_left, part_both, nothing_part, itself_part}
use Rattle.op_model.proofs.Members.{nothing_in}
use Rattle.wire_form.specs.Session.{SessionValue, same_session}
use Rattle.prefix_digest.proofs.MapsOf.{map_is}
use Rattle.replica_model.specs.Alone.{Deed, Calls, Comes, act_of, brought, Says, AllSay, Befalls, RunsAlone, HistoriesAreSeen, HeadlineAlone}
use Rattle.replica_model.specs.Delivery.{Outcome, turn}
use Rattle.replica_model.specs.History as history
use Rattle.replica_model.specs.History.{Entry}
use Rattle.replica_model.specs.Mail.{Mail, Delta, Hello, Opening, Ask, Page, Gone}
use Rattle.replica_model.specs.Replica.{Replica, open_at}
use Rattle.replica_model.specs.Step.{Call, Put, Remove, RemoveField, Clear, Flush, Retry, Abandon, Restart, Answer, IsStep}
use Rattle.replica_model.specs.Step as call
use Rattle.replica_model.specs.World.{World, Snapshot, changed, nothing, learns, keeps, accepts, takes_page, taking_of, own_of, ends, calls, is_sent}
use Rattle.replica_model.specs.World.{is_done, takes, goes, Unclashed}
use Rattle.replica_model.proofs.Answers.{told_by}
use Rattle.replica_model.proofs.Carried.{left_as_is}
use Rattle.replica_model.proofs.Deciding.{came_one}
use Rattle.replica_model.proofs.Meant.{SnapOf, AskedOf, SendsOf, Meant, Fits, meant_call, meant_delivery, meant_first, means_mail, closed_grows, closed_by_call}
use Rattle.replica_model.proofs.Sound.{made_stays}
use Rattle.replica_model.proofs.States.{is_same}
use Rattle.replica_model.proofs.Ties.{MailTie}

module _ (name : ℕ) (whole : List Operation) where
  -- ---- the sets stay within one whole

  grown_within : (b : Bool) (S more : List Operation) → IsPartOf S whole → IsPartOf more whole → IsPartOf (grown b S more) whole
  grown_within true S more f g = part_both S more whole f g
  grown_within false S more f g = f

  emptied_within : (b : Bool) (S : List Operation) → IsPartOf S whole → IsPartOf (emptied b S) whole
  emptied_within true S f = nothing_part whole
  emptied_within false S f = f

  grown_told : (b : Bool) (S more : List Operation) → ¬ Contains S (Erased []) → ¬ Contains more (Erased []) → ¬ Contains (grown b S more) (Erased [])
  grown_told true S more f g = λ h. elim (Contains-append_cases S more (Erased []) h) [ inl here ↦ f here | inr there ↦ g there ]
  grown_told false S more f g = f

  emptied_told : (b : Bool) (S : List Operation) → ¬ Contains S (Erased []) → ¬ Contains (emptied b S) (Erased [])
  emptied_told true S f = λ h. nothing_in (Erased []) h
  emptied_told false S f = f

  -- what a call makes is part of the whole where all that was made is
  fits_made : (w : World) (more : List Operation) → Fits w name whole → IsPartOf (w.made ++ more) whole → ¬ Contains more (Erased []) → (v : World)
      → v.seen name ≡ grown (name == name) (w.seen name) more → v.outgoing name ≡ grown (name == name) (w.outgoing name) more → v.accepted ≡ w.accepted
      → Fits v name whole
  fits_made w more f all told v seen out accepted =
      let part : IsPartOf more whole = λ o h. all o (Contains-append_right w.made more o h) in
      record {
        seen = subst (λ S. IsPartOf S whole) (sym seen) (grown_within (name == name) (w.seen name) more f.seen part);
        outgoing = subst (λ S. IsPartOf S whole) (sym out) (grown_within (name == name) (w.outgoing name) more f.outgoing part);
        accepted = subst (λ (a : SessionValue → Snapshot). (s : SessionValue) → IsPartOf (a s).seen whole) (sym accepted) f.accepted;
        told = subst (λ S. ¬ Contains S (Erased [])) (sym out) (grown_told (name == name) (w.outgoing name) more f.told told);
        once = f.once;
      }

  fits_call : (w : World) (c : Call) → Fits w name whole → IsPartOf (calls name c w).made whole → Fits (calls name c w) name whole
  fits_call w (Put place value) f all = fits_made w (put_at (w.seen name) name place value) f all (put-new (w.seen name) name place value).told
      (calls name (Put place value) w) refl refl refl
  fits_call w (Remove key) f all = fits_made w (remove_at (w.seen name) key) f all (erasure-new (w.seen name) name (ids (shown_within (w.seen name) key))).told
      (calls name (Remove key) w) refl refl refl
  fits_call w (RemoveField place) f all = fits_made w (remove_field_at (w.seen name) place) f all
      (erasure-new (w.seen name) name (ids (shown (w.seen name) place))).told (calls name (RemoveField place) w) refl refl refl
  fits_call w Clear f all = fits_made w (clear_at (w.seen name)) f all (erasure-new (w.seen name) name (ids (shown_anywhere (w.seen name)))).told
      (calls name Clear w) refl refl refl
  fits_call w Flush f all = record {
    seen = f.seen;
    outgoing = emptied_within (name == name) (w.outgoing name) f.outgoing;
    accepted = f.accepted;
    told = emptied_told (name == name) (w.outgoing name) f.told;
    once = f.once;
  }
  fits_call w (call.Ask peer) f all = f
  fits_call w (Retry number) f all = f
  fits_call w (Abandon number) f all = f
  fits_call w Restart f all = f

  fits_learns : (w : World) (more : List Operation) → Fits w name whole → IsPartOf more whole → Fits (learns name more w) name whole
  fits_learns w more f part = record {
    seen = grown_within (name == name) (w.seen name) more f.seen part;
    outgoing = f.outgoing;
    accepted = f.accepted;
    told = f.told;
    once = f.once;
  }

  fits_ends : (w : World) (own : Rattle.sync_model.specs.Differ.Held) (of : Snapshot) (ts : List Rattle.sync_model.specs.Laws.Taking) → Fits w name whole
      → IsPartOf of.seen whole → Fits (ends name own of ts w) name whole
  fits_ends w own of ts f part = record {
    seen = grown_within (name == name) (w.seen name) of.seen f.seen part;
    outgoing = f.outgoing;
    accepted = f.accepted;
    told = f.told;
    once = f.once;
  }

  accepted_within : (f : SessionValue → Snapshot) (s : SessionValue) (x : Snapshot) → ((t : SessionValue) → IsPartOf (f t).seen whole) → IsPartOf x.seen whole
      → (t : SessionValue) → IsPartOf (changed f s x t).seen whole
  accepted_within f s x all part t = step (same_session t s)
    where
      step : (b : Bool) → IsPartOf (cond b x (f t)).seen whole
      step true = part
      step false = all t

  either : (b : Bool) (u w : World) → Fits u name whole → Fits w name whole → Fits (cond b u w) name whole
  either true u w f g = f
  either false u w f g = g

  fits_takes : (w : World) (old : Replica) (mail : Mail) (of : Snapshot) (outcome : Outcome) → Fits w name whole → IsPartOf of.seen whole
      → Fits (takes name old mail of outcome w) name whole
  fits_takes w old (Delta d) of outcome f part = fits_learns w of.seen f part
  fits_takes w old (Hello s seen) of outcome f part =
      either (is_sent outcome) (keeps name old s w) w (record { seen = f.seen; outgoing = f.outgoing; accepted = f.accepted; told = f.told; once = f.once }) f
  fits_takes w old (Opening s context root) of outcome f part =
      either (is_done outcome) (ends name (own_of (open_at old.sessions s)) of [] w) (cond (is_sent outcome) (accepts s of w) w)
      (fits_ends w (own_of (open_at old.sessions s)) of [] f part)
      (either (is_sent outcome) (accepts s of w) w
      (record { seen = f.seen; outgoing = f.outgoing; accepted = accepted_within w.accepted s of f.accepted part; told = f.told; once = f.once }) f)
  fits_takes w old (Ask s prefix) of outcome f part = f
  fits_takes w old (Page s sent) of outcome f part =
      either (is_done outcome) (ends name (own_of (open_at old.sessions s)) (w.accepted s) (taking_of sent ∷ w.taken s) w)
      (cond (is_sent outcome) (takes_page s sent w) w)
      (fits_ends w (own_of (open_at old.sessions s)) (w.accepted s) (taking_of sent ∷ w.taken s) f (f.accepted s))
      (either (is_sent outcome) (takes_page s sent w) w
      (record { seen = f.seen; outgoing = f.outgoing; accepted = f.accepted; told = f.told; once = f.once }) f)
  fits_takes w old (Gone s) of outcome f part = f

  fits_goes : (w : World) (new : Replica) (out : List Mail) (group : List Operation) → Fits w name whole → Fits (goes name new out group w) name whole
  fits_goes w new out group f = record { seen = f.seen; outgoing = f.outgoing; accepted = f.accepted; told = f.told; once = f.once }

-- ---- what was made and what clashed only grows

same_made : (w : World) (name : ℕ) (old : Replica) (mail : Mail) (of : Snapshot) (outcome : Outcome) → (takes name old mail of outcome w).made ≡ w.made
same_made w name = left_as_is name (λ u. u.made) (λ u m. refl) (λ u o s. refl) (λ u s o. refl) (λ u s t. refl) (λ u o f t. refl) w

module _ (hash_of : List ℕ → ℕ) (name : ℕ) where
  made_grows : (deeds : List Deed) (w v : World) → RunsAlone hash_of name w deeds v → IsPartOf w.made v.made
  made_grows [] w v e o h = subst (λ (u : World). Contains u.made o) (sym e) h
  made_grows (Calls c ∷ deeds) w v (answer, u, (new, out, step, e), rest) o h =
      made_grows deeds u v rest o (subst (λ (x : World). Contains x.made o) (sym e) (made_stays w name c w.made (itself_part w.made) o h))
  made_grows (Comes mail of ∷ deeds) w v (answer, u, (new, outcome, out, a, step, e), rest) o h =
      made_grows deeds u v rest o
      (subst (λ (x : World). Contains x.made o) (sym e) (subst (λ S. Contains S o) (sym (same_made w name (w.replica name) mail of outcome)) h))

  closed_more : (deeds : List Deed) (w v : World) → RunsAlone hash_of name w deeds v → Unclashed hash_of v → Unclashed hash_of w
  closed_more [] w v e clean m h = clean m (subst (λ (u : World). Contains u.closed m) (sym e) h)
  closed_more (Calls c ∷ deeds) w v (answer, u, (new, out, step, e), rest) clean m h =
      closed_more deeds u v rest clean m (subst (λ (x : World). Contains x.closed m) (sym e) (subst (λ l. Contains l m) (sym (closed_by_call w name c)) h))
  closed_more (Comes mail of ∷ deeds) w v (answer, u, (new, outcome, out, a, step, e), rest) clean m h =
      closed_more deeds u v rest clean m (subst (λ (x : World). Contains x.closed m) (sym e) (closed_grows w name (w.replica name) mail of outcome m h))

  -- a message that says what it stands for
  tie_of : (w : World) (mail : Mail) (of : Snapshot) → NoReuse of.seen → Says hash_of mail of → MailTie hash_of SnapOf (AskedOf w) SendsOf mail of
  tie_of w (Delta d) of once says = says
  tie_of w (Hello s seen) of once says = tt
  tie_of w (Opening s context root) of once says =
      ((map_is of.seen once of.map (Rattle.op_model.specs.Meaning.state of.seen) says.0 (is_same _ _ refl), says.1), says.2)
  tie_of w (Ask s prefix) of once says = tt
  tie_of w (Page s sent) of once says = tt
  tie_of w (Gone s) of once says = tt

  -- ---- the headline

  module _ (whole : List Operation) where
    meant_run : (deeds : List Deed) (w v : World) → RunsAlone hash_of name w deeds v → AllSay hash_of deeds → IsPartOf v.made whole
        → IsPartOf (brought deeds) whole → Unclashed hash_of v
        → Fits w name whole → Meant hash_of w → Meant hash_of v × Fits v name whole
    meant_run [] w v e says made came clean fits meant = (subst (Meant hash_of) (sym e) meant, subst (λ (u : World). Fits u name whole) (sym e) fits)
    meant_run (Calls c ∷ deeds) w v (answer, u, (new, out, step, e), rest) says made came clean fits meant =
        let after : IsPartOf (calls name c w).made whole = λ o h. made o (made_grows deeds u v rest o (subst (λ (x : World). Contains x.made o) (sym e) h)) in
        let then = fits_call name whole w c fits after in
        meant_run deeds u v rest says made came clean
        (subst (λ (x : World). Fits x name whole) (sym e) (fits_goes name whole (calls name c w) new out (w.outgoing name) then))
        (subst (Meant hash_of) (sym e) (meant_call hash_of w name c new answer out whole fits then.seen meant step))
    meant_run (Comes mail of ∷ deeds) w v (answer, u, (new, outcome, out, a, (second, b, (own, is, step)), e), rest) (says, all) made came clean fits meant =
        let same : second ≡ outcome = came_one second outcome (sym b ∙ a) in
        let part : IsPartOf of.seen whole = λ o h. came o (Contains-append_left of.seen (brought deeds) o h) in
        let once : NoReuse of.seen = NoReuse-part of.seen whole part fits.once in
        let clean_u : Unclashed hash_of u = closed_more deeds u v rest clean in
        let after = takes name (w.replica name) mail of outcome w in
        let clean_after : Unclashed hash_of after = λ x h. clean_u x (subst (λ (y : World). Contains y.closed x) (sym e) h) in
        meant_run deeds u v rest all made (λ o h. came o (Contains-append_right of.seen (brought deeds) o h)) clean
        (subst (λ (x : World). Fits x name whole) (sym e)
        (fits_goes name whole after new out [] (fits_takes name whole w (w.replica name) mail of outcome fits part)))
        (subst (Meant hash_of) (sym e)
        (meant_delivery hash_of w name whole fits meant mail of (tie_of w mail of once says) part own is new outcome out (step ∙ ap (λ o. turn new o out) same)
        clean_after))

  -- ---- histories

  seen_from : (entries : List Entry) (deeds : List Deed) (w : World) (answers : List Answer) (r : Replica)
      → history.Runs hash_of (w.replica name) entries answers r → map (λ (e : Entry). e.act) entries ≡ map act_of deeds
      → (v : World) × RunsAlone hash_of name w deeds v × (v.replica name ≡ r)
  seen_from [] [] w answers r (a, e) same = (w, refl, sym e)
  seen_from [] (d ∷ deeds) w answers r runs same = absurd cc
  seen_from (x ∷ entries) [] w answers r runs same = absurd cc
  seen_from (x ∷ entries) (d ∷ deeds) w answers r (answer, more, a, (next, out, step, rest)) same =
      let act : x.act ≡ act_of d = cc in
      let acts : map (λ (e : Entry). e.act) entries ≡ map act_of deeds = cc in
      let here = befallen d w answer next out (subst (λ y. IsStep hash_of (w.replica name) y next answer out) act step) in
      let u = here.0 in
      let further = seen_from entries deeds u more r (subst (λ q. history.Runs hash_of q entries more r) (sym here.2) rest) acts in
      (further.0, (answer, u, here.1, further.1), further.2)
    where
      now : (new : Replica) (f : ℕ → Replica) → cond (name == name) new (f name) ≡ new
      now new f = ap (λ b. cond b new (f name)) (Rattle.std.proofs.Common.eq-eqb name name refl)

      befallen : (d : Deed) (w : World) (answer : Answer) (new : Replica) (out : List Mail) → IsStep hash_of (w.replica name) (act_of d) new answer out
          → (u : World) × Befalls hash_of name w d answer u × (u.replica name ≡ new)
      befallen (Calls c) w answer new out step =
          (goes name new out (w.outgoing name) (calls name c w), (new, out, step, refl), now new (calls name c w).replica)
      befallen (Comes mail of) w answer new out (outcome, a, step) =
          let after = takes name (w.replica name) mail of outcome w in
          (goes name new out [] after, (new, outcome, out, a, (outcome, a, step), refl), now new after.replica)

pub histories_are_seen : HistoriesAreSeen
histories_are_seen hash_of name entries r deeds (answers, runs) same = seen_from hash_of name entries deeds nothing answers r runs same

module _ (hash_of : List ℕ → ℕ) (name : ℕ) (deeds : List Deed) (w : World) (runs : RunsAlone hash_of name nothing deeds w) (says : AllSay hash_of deeds)
    (once : NoReuse (w.made ++ brought deeds)) (clean : Unclashed hash_of w) where
  abbrev whole : List Operation
  whole = w.made ++ brought deeds

  first : Fits nothing name whole
  first = record {
    seen = nothing_part whole;
    outgoing = nothing_part whole;
    accepted = λ s. nothing_part whole;
    told = λ h. nothing_in (Erased []) h;
    once = once;
  }

  in_the_end : Meant hash_of w × Fits w name whole
  in_the_end =
      meant_run hash_of name whole deeds nothing w runs says (part_left w.made w.made (brought deeds) (itself_part w.made))
      (λ o h. Contains-append_right w.made (brought deeds) o h) clean first (meant_first hash_of)

  -- what it has seen is of what it made and of what came
  pub seen_alone : IsPartOf (w.seen name) (w.made ++ brought deeds)
  seen_alone = in_the_end.1.seen

pub headline_alone : HeadlineAlone
headline_alone hash_of name deeds w runs says once clean =
    let end = in_the_end hash_of name deeds w runs says once clean in
    let m = end.0 in
    record {
      live = m.live name;
      group = m.group name;
      messages = λ number x there. means_mail hash_of w x.mail x.of (m.ties.messages number x there);
      calls = told_by hash_of (w.replica name) (w.seen name) (w.outgoing name) (m.live name) (m.group name) end.1.told name (m.ties.named name);
    }
