-- Deeds by the steps that they make, and what leaves the world as it is.
use Rattle.std.proofs.Common.{◌≡◌, ℕ, ◌==◌, List, [], cond, refl, sym, ap, ◌∙◌}
use Rattle.std.proofs.lemmas.List.{append-nil}
use Rattle.prefix_digest.specs.MapOf.{IsMapOf}
use Rattle.sync_model.specs.Differ.{Held}
use Rattle.replica_model.specs.Alone.{Calls, Comes, Befalls}
use Rattle.replica_model.specs.Delivery.{Outcome, Ignored, Mismatch, turn, delivered}
use Rattle.replica_model.specs.Mail.{Mail, Delta, Hello, Opening, Ask, Page, Gone}
use Rattle.replica_model.specs.Replica.{Replica}
use Rattle.replica_model.specs.Step.{Call, Answer, Came, IsCall}
use Rattle.replica_model.specs.World.{World, Snapshot, calls, takes, goes}
use Rattle.replica_model.proofs.Rows.{IsNoDelta}
use Rattle.replica_model.proofs.Carried.{by_name}
use Rattle.replica_model.proofs.Deciding.{came_one}
use Rattle.replica_model.proofs.Ended.{here_new}

module _ (hash_of : List ℕ → ℕ) (name : ℕ) where
  -- a call, and the replica after it
  pub record CalledNow (w : World) (c : Call) (answer : Answer) (v : World) : Type 0 where
    pub new : Replica
    pub out : List Mail
    pub step : IsCall (w.replica name) c new answer out
    pub after : v ≡ goes name new out (w.outgoing name) (calls name c w)
    pub here : v.replica name ≡ new

  pub called_now : (w v : World) (c : Call) (answer : Answer) → Befalls hash_of name w (Calls c) answer v → CalledNow w c answer v
  called_now w v c answer (new, out, step, after) = record {
    new = new;
    out = out;
    step = step;
    after = after;
    here = ap (λ (x : World). x.replica name) after ∙ here_new name new _;
  }

  -- a delivery, with the map that stood for the live state, and the replica after it
  pub record CameNow (w : World) (mail : Mail) (of : Snapshot) (answer : Answer) (v : World) : Type 0 where
    pub own : Held
    pub is_own : IsMapOf own (w.replica name).live
    pub new : Replica
    pub outcome : Outcome
    pub out : List Mail
    pub answers : answer ≡ Came outcome
    pub step : delivered hash_of own (w.replica name) mail ≡ turn new outcome out
    pub after : v ≡ goes name new out [] (takes name (w.replica name) mail of outcome w)
    pub here : v.replica name ≡ new

  pub came_now : (w v : World) (mail : Mail) (of : Snapshot) (answer : Answer) → Befalls hash_of name w (Comes mail of) answer v
      → CameNow w mail of answer v
  came_now w v mail of answer (new, outcome, out, a, (second, b, (own, is, step)), after) =
      let same : second ≡ outcome = came_one second outcome (sym b ∙ a) in
      record {
        own = own;
        is_own = is;
        new = new;
        outcome = outcome;
        out = out;
        answers = a;
        step = step ∙ ap (λ o. turn new o out) same;
        after = after;
        here = ap (λ (x : World). x.replica name) after ∙ here_new name new _;
      }

-- the world with a replica as it was, and no message more
pub as_it_was : (name : ℕ) (w : World) → goes name (w.replica name) [] [] w ≡ w
as_it_was name w =
    let same : (n : ℕ) → cond (n == name) (w.replica name) (w.replica n) ≡ w.replica n =
    by_name (λ n r. r ≡ w.replica n) name (w.replica name) w.replica refl (λ n apart. refl) in
    λ i. record w { replica = λ n. same n i; messages = append-nil w.messages i }

-- the sets follow no message that was ignored, or did not fit
pub ignored_stays : (name : ℕ) (r : Replica) (mail : Mail) (of : Snapshot) (w : World) → IsNoDelta mail → takes name r mail of Ignored w ≡ w
ignored_stays name r (Delta d) of w other = absurd other
ignored_stays name r (Hello s seen) of w other = refl
ignored_stays name r (Opening s context root) of w other = refl
ignored_stays name r (Ask s prefix) of w other = refl
ignored_stays name r (Page s sent) of w other = refl
ignored_stays name r (Gone s) of w other = refl

pub mismatch_stays : (name : ℕ) (r : Replica) (mail : Mail) (of : Snapshot) (w : World) → IsNoDelta mail → takes name r mail of Mismatch w ≡ w
mismatch_stays name r (Delta d) of w other = absurd other
mismatch_stays name r (Hello s seen) of w other = refl
mismatch_stays name r (Opening s context root) of w other = refl
mismatch_stays name r (Ask s prefix) of w other = refl
mismatch_stays name r (Page s sent) of w other = refl
mismatch_stays name r (Gone s) of w other = refl
