-- The calls of a replica are told by what it has seen and is to send.
use Rattle.std.proofs.Common.{◌≡◌, inl, inr, ℕ, List, [], ◌∷◌, Some, None, sym, ap, ◌∙◌}
use Rattle.std.specs.Prelude.{Contains, IsSome, IsTrue, ◌↔◌}
use Rattle.std.proofs.lemmas.Option.{same_Some}
use Rattle.dots.specs.declared.dot.Dot.{Dot}
use Rattle.op_model.specs.Made.{write_at, IsPutAt, IsWithin, IsAnywhere}
use Rattle.op_model.specs.Meaning.{state}
use Rattle.op_model.specs.Operation.{Operation, Erased, has, ids}
use Rattle.op_model.specs.Shown.{shown, shown_within, shown_anywhere}
use Rattle.op_model.specs.State.{Same}
use Rattle.op_model.proofs.Making.{IsNext-one, put_there, remove_there, field_remove_there, clear_there}
use Rattle.replica_model.specs.Answers.{answer_by, flushed_by, IsToldBy, CallsAreTold}
use Rattle.replica_model.specs.Mail.{Mail, Delta}
use Rattle.replica_model.specs.Replica.{Replica}
use Rattle.replica_model.specs.Step.{Call, Put, Remove, RemoveField, Clear, Flush, Retry, Abandon, Restart, Answer, Counted, Made, Removes, IsCall}
use Rattle.replica_model.specs.Step as call
use Rattle.replica_model.proofs.Meant.{meant_all, nothing_outgoing, sound_fits}
use Rattle.replica_model.proofs.Sound.{sound}
use Rattle.replica_model.proofs.States.{is_same, counted}

none_told : (answer told : Answer) → None ≡ Some told → answer ≡ told
none_told answer told e = absurd cc

-- so many writes were observed
removed : (P : Dot → Type 0) (ds : List Dot) → ((dot : Dot) → IsTrue (has ds dot) ↔ P dot) → (old new : Replica) (answer : Answer) (out : List Mail)
    → Removes P old new answer out
    → answer ≡ Counted (Rattle.std.specs.Set.distinct_count Rattle.dots.specs.Dot.same_dot ds)
removed P ds all old new answer out (over, just, n, (k, counts, a), o) = a ∙ ap Counted (counted P ds k counts all)

module _ (hash_of : List ℕ → ℕ) (r : Replica) (S T : List Operation) (live : r.live ≡ state S) (group : r.group ≡ state T)
    (told_of : ¬ Contains T (Erased [])) where
  same : Same r.live (state S)
  same = is_same r.live (state S) live

  calls_told : (c : Call) (new : Replica) (answer : Answer) (out : List Mail) → IsCall r c new answer out → (told : Answer) → answer_by S r.name c ≡ Some told
      → answer ≡ told
  calls_told (Put place value) new answer out (v, put, lt, n, a, o) told e =
      let there : IsPutAt r.live r.name place value (write_at S r.name place value) = put_there S r.live same r.name place value in
      a ∙ ap Made (IsNext-one r.name r.live.has v.id (write_at S r.name place value).id put.id there.id) ∙ same_Some _ _ e
  calls_told (Remove key) new answer out step told e = removed (IsWithin r.live key) (ids (shown_within S key)) (remove_there S r.live same key)
      r new answer out step ∙ same_Some _ _ e
  calls_told (RemoveField place) new answer out step told e =
      removed (λ dot. IsSome (r.live.at place dot)) (ids (shown S place))
      (λ dot. (λ h. sym (field_remove_there S r.live same place dot) ∙ h, λ h. field_remove_there S r.live same place dot ∙ h)) r new answer out step
      ∙ same_Some _ _ e
  calls_told Clear new answer out step told e = removed (IsAnywhere r.live) (ids (shown_anywhere S)) (clear_there S r.live same) r new answer out step
      ∙ same_Some _ _ e
  calls_told Flush new answer out step told e = none_told answer told e
  calls_told (call.Ask peer) new answer out step told e = none_told answer told e
  calls_told (Retry number) new answer out step told e = none_told answer told e
  calls_told (Abandon number) new answer out step told e = none_told answer told e
  calls_told Restart new answer out step told e = none_told answer told e

  flushes_told : (new : Replica) (answer : Answer) (out : List Mail) → IsCall r Flush new answer out → out ≡ flushed_by T
  flushes_told new answer out (a, inl (none, n, o)) = o ∙ ap flushed_by (sym (nothing_outgoing T told_of r.group group none))
  flushes_told new answer out (a, inr (some, n, o)) = o ∙ by T group
    where
      by : (T : List Operation) → r.group ≡ state T → (Delta r.group ∷ []) ≡ flushed_by T
      by [] e = absurd (some (λ dot. ap (λ (p : Rattle.op_model.specs.Meaning.MapState). p.has dot) e))
      by (x ∷ T) e = ap (λ g. Delta g ∷ []) e

  pub told_by : (name : ℕ) → r.name ≡ name → IsToldBy hash_of r name S T
  told_by name named = record {
    calls = λ c new answer out step told e. calls_told c new answer out step told (ap (λ n. answer_by S n c) named ∙ e);
    flushes = flushes_told;
  }

pub calls_are_told : CallsAreTold
calls_are_told hash_of events w runs clean name =
    let m = meant_all hash_of events w runs clean in
    told_by hash_of (w.replica name) (w.seen name) (w.outgoing name) (m.live name) (m.group name) (sound_fits w (sound hash_of events w runs) name).told name
    (m.ties.named name)
