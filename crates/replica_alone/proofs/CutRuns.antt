-- Deeds of a replica with what it sends by them, told without a world; and the world in which they befall it.
use Rattle.std.proofs.Common.{◌≡◌, ℕ, ◌==◌, List, [], ◌∷◌, ◌++◌, map, cond, refl, sym, ap, ◌∙◌, subst, append_assoc, eq-eqb}
use Rattle.std.proofs.lemmas.List.{append-nil, map-append}
use Rattle.op_model.specs.Operation.{Operation}
use Rattle.wire_form.specs.Session.{SessionValue}
use Rattle.replica_model.specs.Alone.{Deed, Calls, Comes, Befalls, RunsAlone, act_of}
use Rattle.replica_model.specs.Mail.{Mail}
use Rattle.replica_model.specs.Replica.{Replica, Kept}
use Rattle.replica_model.specs.Step.{Answer, IsStep}
use Rattle.replica_model.specs.World.{World, Message, calls, takes, sent_as, goes}
use Rattle.replica_model.proofs.Carried.{same_messages}
use Rattle.replica_model.proofs.Leaving.{same_calls}

-- the mails of these messages
abbrev pub mails_of : List Message → List Mail
mails_of ms = map (λ (m : Message). m.mail) ms

-- the mails of what is sent, and of that behind other messages
mails_sent : (group : List Operation) (kept : SessionValue → List Operation) (ks : List Kept) (out : List Mail)
    → mails_of (map (sent_as group kept ks) out) ≡ out
mails_sent group kept ks [] = refl
mails_sent group kept ks (mail ∷ out) = ap (λ xs. mail ∷ xs) (mails_sent group kept ks out)

mails_on : (ms : List Message) (group : List Operation) (kept : SessionValue → List Operation) (ks : List Kept) (out : List Mail)
    → mails_of (ms ++ map (sent_as group kept ks) out) ≡ mails_of ms ++ out
mails_on ms group kept ks out =
    map-append (λ (m : Message). m.mail) ms (map (sent_as group kept ks) out) ∙ ap (λ xs. mails_of ms ++ xs) (mails_sent group kept ks out)

module _ (hash_of : List ℕ → ℕ) where
  -- after these deeds, from one on, and all that it sent
  abbrev pub RunsSending : Replica → List Deed → Replica → List Mail → Type 0
  RunsSending r [] s out = (s ≡ r) × (out ≡ [])
  RunsSending r (d ∷ ds) s out =
      (next : Replica) × (answer : Answer) × (now later : List Mail) × IsStep hash_of r (act_of d) next answer now × RunsSending next ds s later
      × (out ≡ now ++ later)

  -- one deed
  pub runs_one : (r : Replica) (d : Deed) (s : Replica) (answer : Answer) (out : List Mail) → IsStep hash_of r (act_of d) s answer out
      → RunsSending r (d ∷ []) s out
  runs_one r d s answer out step = (s, answer, out, [], step, (refl, refl), sym (append-nil out))

  -- some deeds, and then others
  pub runs_then : (ds es : List Deed) (r s t : Replica) (out more : List Mail) → RunsSending r ds s out → RunsSending s es t more
      → RunsSending r (ds ++ es) t (out ++ more)
  runs_then [] es r s t out more (same, none) rest =
      let P : Replica → Type 0 = λ x. RunsSending x es t more in
      let Q : List Mail → Type 0 = λ x. RunsSending r es t (x ++ more) in
      subst Q (sym none) (subst P same rest)
  runs_then (d ∷ ds) es r s t out more (next, answer, now, later, step, runs, e) rest = (
    next,
    answer,
    now,
    later ++ more,
    step,
    runs_then ds es next s t later more runs rest,
    ap (λ x. x ++ more) e ∙ append_assoc now later more,
  )

  -- from a replica that is one with it, and to one
  pub runs_same : (ds : List Deed) (r q s t : Replica) (out : List Mail) → r ≡ q → s ≡ t → RunsSending r ds s out → RunsSending q ds t out
  runs_same ds r q s t out first last runs =
      let P : Replica → Type 0 = λ x. RunsSending x ds s out in
      let Q : Replica → Type 0 = λ x. RunsSending q ds x out in
      subst Q last (subst P first runs)

  module _ (name : ℕ) where
    -- the replica of this name, as it is now
    now_at : (new : Replica) (f : ℕ → Replica) → cond (name == name) new (f name) ≡ new
    now_at new f = ap (λ b. cond b new (f name)) (eq-eqb name name refl)

    -- a deed that befalls the replica of a world
    pub record IsBefallen (w : World) (d : Deed) (answer : Answer) (new : Replica) (out : List Mail) : Type 0 where
      pub after : World
      pub befalls : Befalls hash_of name w d answer after
      pub replica : after.replica name ≡ new
      pub mails : mails_of after.messages ≡ mails_of w.messages ++ out

    -- each step is so
    befallen : (w : World) (d : Deed) (answer : Answer) (new : Replica) (out : List Mail) → IsStep hash_of (w.replica name) (act_of d) new answer out
        → IsBefallen w d answer new out
    befallen w (Calls c) answer new out step =
        let u = calls name c w in
        record {
          after = goes name new out (w.outgoing name) u;
          befalls = (new, out, step, refl);
          replica = now_at new u.replica;
          mails = mails_on u.messages (w.outgoing name) u.kept new.kept out ∙ ap (λ ms. mails_of ms ++ out) (same_calls w name c).0;
        }
    befallen w (Comes mail of) answer new out (outcome, a, step) =
        let u = takes name (w.replica name) mail of outcome w in
        record {
          after = goes name new out [] u;
          befalls = (new, outcome, out, a, (outcome, a, step), refl);
          replica = now_at new u.replica;
          mails = mails_on u.messages [] u.kept new.kept out ∙ ap (λ ms. mails_of ms ++ out) (same_messages w name (w.replica name) mail of outcome);
        }

    -- the world after such deeds
    pub record IsRun (w : World) (ds : List Deed) (s : Replica) (out : List Mail) : Type 0 where
      pub world : World
      pub runs : RunsAlone hash_of name w ds world
      pub replica : world.replica name ≡ s
      pub mails : mails_of world.messages ≡ mails_of w.messages ++ out

    -- there is one
    pub run_alone : (ds : List Deed) (w : World) (s : Replica) (out : List Mail) → RunsSending (w.replica name) ds s out → IsRun w ds s out
    run_alone [] w s out (same, none) = record {
      world = w;
      runs = refl;
      replica = sym same;
      mails = sym (append-nil (mails_of w.messages)) ∙ ap (λ xs. mails_of w.messages ++ xs) (sym none);
    }
    run_alone (d ∷ ds) w s out (next, answer, now, later, step, runs, e) =
        let here = befallen w d answer next now step in
        let u = here.after in
        let P : Replica → Type 0 = λ q. RunsSending q ds s later in
        let there = run_alone ds u s later (subst P (sym here.replica) runs) in
        record {
          world = there.world;
          runs = (answer, u, here.befalls, there.runs);
          replica = there.replica;
          mails = there.mails ∙ ap (λ xs. xs ++ later) here.mails ∙ append_assoc (mails_of w.messages) now later
              ∙ ap (λ xs. mails_of w.messages ++ xs) (sym e);
        }
