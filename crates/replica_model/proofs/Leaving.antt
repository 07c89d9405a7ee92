-- An event at one replica leaves all others, and adds to the messages.
use Rattle.std.proofs.Common.{◌≡◌, ◌≢◌, ℕ, ◌==◌, [], ◌∷◌, ◌++◌, map, cond, refl, sym, ap, ◌∙◌}
use Rattle.std.proofs.lemmas.Bool.{ne_eqb}
use Rattle.std.proofs.lemmas.List.{append-nil}
use Rattle.replica_model.specs.Replica.{Replica}
use Rattle.replica_model.specs.Step.{Call, Put, Remove, RemoveField, Clear, Flush, Retry, Abandon, Restart}
use Rattle.replica_model.specs.Step as call
use Rattle.replica_model.specs.World.{World, Node, At, Deliver, calls, takes, sent_as}
use Rattle.replica_model.specs.Laws.{EventsLeave}
use Rattle.replica_model.proofs.Carried.{left_as_is, same_replicas, same_messages}
use Rattle.replica_model.proofs.Fronts.{same_after_calls, delivery}
use Rattle.replica_model.proofs.Meant.{seen_elsewhere, seen_stays, outgoing_stays}

there : (n name : ℕ) → n ≢ name → (new old : Replica) → cond (n == name) new old ≡ old
there n name apart new old = ap (λ b. cond b new old) (ne_eqb n name apart)

pub same_calls : (w : World) (name : ℕ) (c : Call) → ((calls name c w).messages ≡ w.messages) × ((calls name c w).nodes ≡ w.nodes)
same_calls w name (Put place value) = (refl, refl)
same_calls w name (Remove key) = (refl, refl)
same_calls w name (RemoveField place) = (refl, refl)
same_calls w name Clear = (refl, refl)
same_calls w name Flush = (refl, refl)
same_calls w name (call.Ask peer) = (refl, refl)
same_calls w name (Retry number) = (refl, refl)
same_calls w name (Abandon number) = (refl, refl)
same_calls w name Restart = (refl, refl)

pub leaves : EventsLeave
leaves hash_of w v (Node name) answer (new, a, e) = record {
  replicas = λ n apart. ap (λ (x : World). x.replica n) e;
  seen = λ n apart. ap (λ (x : World). x.seen n) e;
  outgoing = λ n apart. ap (λ (x : World). x.outgoing n) e;
  messages = ([], ap (λ (x : World). x.messages) e ∙ sym (append-nil w.messages));
  nodes = (name ∷ [], ap (λ (x : World). x.nodes) e);
}
leaves hash_of w v (At name c) answer (is, peer, (new, out, step, e)) =
    let u = calls name c w in
    record {
      replicas = λ n apart. ap (λ (x : World). x.replica n) e ∙ there n name apart new (u.replica n) ∙ ap (λ f. f n) (same_after_calls hash_of w name c);
      seen = λ n apart. ap (λ (x : World). x.seen n) e ∙ (seen_elsewhere w name c n apart).0;
      outgoing = λ n apart. ap (λ (x : World). x.outgoing n) e ∙ (seen_elsewhere w name c n apart).1;
      messages = (
        map (sent_as (w.outgoing name) u.kept new.kept) out,
        ap (λ (x : World). x.messages) e
            ∙ ap (λ ms. ms ++ map (sent_as (w.outgoing name) u.kept new.kept) out) (same_calls w name c).0,
      );
      nodes = ([], ap (λ (x : World). x.nodes) e ∙ (same_calls w name c).1 ∙ sym (append-nil w.nodes));
    }
leaves hash_of w v (Deliver number name) answer happens =
    let d = delivery hash_of w v number name answer happens in
    let old = w.replica name in
    let u = takes name old d.message.mail d.message.of d.outcome w in
    record {
      replicas = λ n apart. ap (λ (x : World). x.replica n) d.after ∙ there n name apart d.new (u.replica n)
          ∙ ap (λ f. f n) (same_replicas w name old d.message.mail d.message.of d.outcome);
      seen = λ n apart. ap (λ (x : World). x.seen n) d.after ∙ seen_stays w name n apart old d.message.mail d.message.of d.outcome;
      outgoing = λ n apart. ap (λ (x : World). x.outgoing n) d.after ∙ ap (λ f. f n) (outgoing_stays w name old d.message.mail d.message.of d.outcome);
      messages = (
        map (sent_as [] u.kept d.new.kept) d.out,
        ap (λ (x : World). x.messages) d.after ∙ ap (λ ms. ms ++ map (sent_as [] u.kept d.new.kept) d.out)
            (same_messages w name old d.message.mail d.message.of d.outcome),
      );
      nodes = (
        [],
        ap (λ (x : World). x.nodes) d.after
            ∙ left_as_is name (λ x. x.nodes) (λ x m. refl) (λ x o s. refl) (λ x s o. refl) (λ x s t. refl) (λ x o f t. refl)
            w old d.message.mail d.message.of d.outcome
            ∙ sym (append-nil w.nodes),
      );
    }
