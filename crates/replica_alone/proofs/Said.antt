-- The headline of a replica by itself, where only what is taken says what it stands for: what is not taken changes nothing, and so the deeds without it lead
-- to the same world.
use Rattle.std.proofs.Common.{◌≡◌, ◌≢◌, ℕ, List, [], ◌∷◌, ◌++◌, true, false, cond, refl, sym, ap, ◌∙◌, subst}
use Rattle.op_model.specs.Operation.{Operation, NoReuse}
use Rattle.op_model.proofs.SameSets.{state-same}
use Rattle.prefix_digest.specs.MapOf.{IsMapOf}
use Rattle.prefix_digest.specs.Page.{digest_at}
use Rattle.prefix_digest.proofs.MapsOf.{maps_one}
use Rattle.wire_form.specs.Session.{SessionValue}
use Rattle.sync_model.specs.Differ.{Held}
use Rattle.replica_model.specs.Alone.{Deed, Calls, Comes, brought, Says, AllSay, Befalls, RunsAlone}
use Rattle.replica_model.specs.Delivery.{Outcome, Joined, Sent, Done, Ignored, Mismatch, Ended, Turn, turn, delivered}
use Rattle.replica_model.specs.Mail.{Mail, Delta, Hello, Opening, Ask, Page, Gone}
use Rattle.replica_model.specs.Replica.{Replica}
use Rattle.replica_model.specs.Step.{Answer, Came}
use Rattle.replica_model.specs.World.{World, Snapshot, no_snapshot, nothing, takes, goes}
use Rattle.replica_model.proofs.Alone.{headline_alone}
use Rattle.replica_model.proofs.Rows.{IsNoDelta, each_row, other_unless_joined}
use Rattle.replica_model.proofs.States.{same_is}
use Rattle.replica_alone.specs.Said.{is_taken, brings, TakenSay, brought_taken, HeadlineTakenAlone, SameSeenAlone}
use Rattle.replica_alone.proofs.Deeds.{CameNow, came_now, as_it_was, ignored_stays, mismatch_stays}

-- ---- what a message that is not taken leaves

module _ (hash_of : List ℕ → ℕ) (own : Held) (r : Replica) where
  -- one that was ignored, or did not fit, leaves all as it is; and a session ends with nothing at a gone alone
  abbrev IsLeft : Outcome → Mail → Turn → Type 0
  IsLeft Ignored mail t = t ≡ turn r Ignored []
  IsLeft Mismatch mail t = t ≡ turn r Mismatch []
  IsLeft Ended mail t = (s : SessionValue) × (mail ≡ Gone s)
  IsLeft other mail t = Unit {0}

  leaves : (mail : Mail) → IsLeft (delivered hash_of own r mail).outcome mail (delivered hash_of own r mail)
  leaves = each_row hash_of own r (λ mail t. IsLeft t.outcome mail t) (record {
    ignoring = λ mail other. refl;
    mismatch = λ mail other. refl;
    delta = λ d. tt;
    told_again = λ s seen k e. tt;
    kept = λ s seen here none. tt;
    gone = λ s p. tt;
    page = λ s p k page. tt;
    opening_done = λ s c root o f there first took complete. tt;
    opening_sent = λ s c root o f there first took. tt;
    page_done = λ s sent o a f there accepted took complete. tt;
    page_sent = λ s sent o a f there accepted took. tt;
    ended = λ s o there. (s, refl);
  })

-- ---- what a message is taken to stand for: nothing, but where it brings something

abbrev stands_for : Mail → Snapshot → Snapshot
stands_for (Delta d) of = of
stands_for (Opening s context root) of = of
stands_for other of = no_snapshot

module _ (hash_of : List ℕ → ℕ) where
  brings_that : (mail : Mail) (of : Snapshot) → (stands_for mail of).seen ≡ brings mail of
  brings_that (Delta d) of = refl
  brings_that (Hello s seen) of = refl
  brings_that (Opening s context root) of = refl
  brings_that (Ask s prefix) of = refl
  brings_that (Page s sent) of = refl
  brings_that (Gone s) of = refl

  says_that : (mail : Mail) (of : Snapshot) → Says hash_of mail of → Says hash_of mail (stands_for mail of)
  says_that (Delta d) of says = says
  says_that (Hello s seen) of says = tt
  says_that (Opening s context root) of says = says
  says_that (Ask s prefix) of says = tt
  says_that (Page s sent) of says = tt
  says_that (Gone s) of says = tt

  takes_that : (name : ℕ) (r : Replica) (mail : Mail) (of : Snapshot) (outcome : Outcome) (w : World)
      → takes name r mail of outcome w ≡ takes name r mail (stands_for mail of) outcome w
  takes_that name r (Delta d) of outcome w = refl
  takes_that name r (Hello s seen) of outcome w = refl
  takes_that name r (Opening s context root) of outcome w = refl
  takes_that name r (Ask s prefix) of outcome w = refl
  takes_that name r (Page s sent) of outcome w = refl
  takes_that name r (Gone s) of outcome w = refl

  befalls_that : (name : ℕ) (w v : World) (mail : Mail) (of : Snapshot) (answer : Answer) → Befalls hash_of name w (Comes mail of) answer v
      → Befalls hash_of name w (Comes mail (stands_for mail of)) answer v
  befalls_that name w v mail of answer (new, outcome, out, a, step, after) =
      (new, outcome, out, a, step, after ∙ ap (goes name new out []) (takes_that name (w.replica name) mail of outcome w))

-- ---- the deeds without what was not taken

module _ (hash_of : List ℕ → ℕ) (name : ℕ) where
  pub record Without (w v : World) (came : List Operation) : Type 0 where
    pub deeds : List Deed
    pub runs : RunsAlone hash_of name w deeds v
    pub says : AllSay hash_of deeds
    pub brought_is : brought deeds ≡ came

  without_comes : (w u v : World) (mail : Mail) (of : Snapshot) (answer : Answer) (came : List Operation) → Befalls hash_of name w (Comes mail of) answer u
      → (is_taken answer ≡ true → Says hash_of mail of) → Without u v came → Without w v (cond (is_taken answer) (brings mail of) [] ++ came)
  without_comes w u v mail of answer came befalls says rest = by (came_now hash_of name w u mail of answer befalls)
    where
      -- it is taken
      taken : is_taken answer ≡ true → Without w v (cond (is_taken answer) (brings mail of) [] ++ came)
      taken is =
          record {
            deeds = Comes mail (stands_for mail of) ∷ rest.deeds;
            runs = (answer, u, befalls_that hash_of name w u mail of answer befalls, rest.runs);
            says = (says_that hash_of mail of (says is), rest.says);
            brought_is = ap (λ S. S ++ brought rest.deeds) (brings_that hash_of mail of) ∙ ap (λ S. brings mail of ++ S) rest.brought_is
                ∙ ap (λ b. cond b (brings mail of) [] ++ came) (sym is);
          }

      -- or it leaves the world
      left : is_taken answer ≡ false → u ≡ w → Without w v (cond (is_taken answer) (brings mail of) [] ++ came)
      left is same =
          record {
            deeds = rest.deeds;
            runs = subst (λ x. RunsAlone hash_of name x rest.deeds v) same rest.runs;
            says = rest.says;
            brought_is = rest.brought_is ∙ ap (λ b. cond b (brings mail of) [] ++ came) (sym is);
          }

      -- or it is a gone, which stands for nothing
      gone : (s : SessionValue) → mail ≡ Gone s → is_taken answer ≡ false → Without w v (cond (is_taken answer) (brings mail of) [] ++ came)
      gone s at is =
          let here : Befalls hash_of name w (Comes (Gone s) no_snapshot) answer u =
          subst (λ m. Befalls hash_of name w (Comes m (stands_for m of)) answer u) at (befalls_that hash_of name w u mail of answer befalls) in
          record {
            deeds = Comes (Gone s) no_snapshot ∷ rest.deeds;
            runs = (answer, u, here, rest.runs);
            says = (tt, rest.says);
            brought_is = rest.brought_is ∙ ap (λ b. cond b (brings mail of) [] ++ came) (sym is);
          }

      by : CameNow hash_of name w mail of answer u → Without w v (cond (is_taken answer) (brings mail of) [] ++ came)
      by d =
          each d.outcome d.answers
          (subst (λ (t : Turn). IsLeft hash_of d.own (w.replica name) t.outcome mail t) d.step (leaves hash_of d.own (w.replica name) mail))
        where
          u_is : (o : Outcome) → turn d.new d.outcome d.out ≡ turn (w.replica name) o [] → takes name (w.replica name) mail of o w ≡ w → u ≡ w
          u_is o same stays =
              d.after ∙ ap (λ (t : Turn). goes name t.new t.replies [] (takes name (w.replica name) mail of t.outcome w)) same
              ∙ ap (goes name (w.replica name) [] []) stays ∙ as_it_was name w

          other : (o : Outcome) → turn d.new d.outcome d.out ≡ turn (w.replica name) o [] → o ≢ Joined → IsNoDelta mail
          other o same = other_unless_joined hash_of d.own (w.replica name) mail o (ap (λ (t : Turn). t.outcome) (d.step ∙ same))

          each : (o : Outcome) → answer ≡ Came o → IsLeft hash_of d.own (w.replica name) o mail (turn d.new d.outcome d.out)
              → Without w v (cond (is_taken answer) (brings mail of) [] ++ came)
          each Joined e l = taken (ap is_taken e)
          each Sent e l = taken (ap is_taken e)
          each Done e l = taken (ap is_taken e)
          each Ignored e l = left (ap is_taken e) (u_is Ignored l (ignored_stays name (w.replica name) mail of w (other Ignored l (λ e. absurd cc))))
          each Mismatch e l = left (ap is_taken e) (u_is Mismatch l (mismatch_stays name (w.replica name) mail of w (other Mismatch l (λ e. absurd cc))))
          each Ended e (s, is) = gone s is (ap is_taken e)

  pub without : (deeds : List Deed) (w v : World) (runs : RunsAlone hash_of name w deeds v) → TakenSay hash_of name deeds w v runs
      → Without w v (brought_taken hash_of name deeds w v runs)
  without [] w v runs says = record { deeds = []; runs = runs; says = tt; brought_is = refl }
  without (Calls c ∷ deeds) w v (answer, u, befalls, rest) says =
      let more = without deeds u v rest says in
      record { deeds = Calls c ∷ more.deeds; runs = (answer, u, befalls, more.runs); says = more.says; brought_is = more.brought_is }
  without (Comes mail of ∷ deeds) w v (answer, u, befalls, rest) (says, all) =
      without_comes w u v mail of answer (brought_taken hash_of name deeds u v rest) befalls says (without deeds u v rest all)

pub headline_taken_alone : HeadlineTakenAlone
headline_taken_alone hash_of name deeds w runs says once clean =
    let less = without hash_of name deeds nothing w runs says in
    headline_alone hash_of name less.deeds w less.runs less.says (subst (λ S. NoReuse (w.made ++ S)) (sym less.brought_is) once) clean

pub same_seen_alone : SameSeenAlone
same_seen_alone hash_of a b w v m n same =
    let live : (w.replica a).live ≡ (v.replica b).live = m.live ∙ same_is _ _ (state-same (w.seen a) (v.seen b) same) ∙ sym n.live in
    let one : (x y : Held) → IsMapOf x (w.replica a).live → IsMapOf y (v.replica b).live → x ≡ y =
    λ x y f g. maps_one x y (v.replica b).live (subst (IsMapOf x) live f) g in
    record { live = live; one_map = one; digests = λ x y f g prefix. ap (λ z. digest_at hash_of z prefix) (one x y f g) }
