-- An event of a world is one of the system that it shows.
use Rattle.std.proofs.Common.{◌≡◌, ℕ, zero, suc, ◌==◌, Bool, true, false, cond, List, [], ◌∷◌, ◌++◌, map, Some, None, refl, sym, ap, ◌∙◌, subst, arith}
use Rattle.std.proofs.Common.{append-nil}
use Rattle.std.proofs.lemmas.Bool.Decides.{nat_tests}
use Rattle.std.specs.List.{slice_get}
use Rattle.std.specs.Option.{option_map}
use Rattle.op_model.specs.World.{is_among}
use Rattle.replica_model.specs.Crashing.{System, Does, Shows, put, mail_at, peer_in}
use Rattle.replica_model.specs.Crashing as crashing
use Rattle.replica_model.specs.Mail.{Mail}
use Rattle.replica_model.specs.Replica.{Replica}
use Rattle.replica_model.specs.Step.{Call, Put, Remove, RemoveField, Clear, Flush, Ask, Retry, Abandon, Restart, Do, Take, Act, Answer, IsStep}
use Rattle.replica_model.specs.World.{World, Message, Event, Node, At, Deliver, is_node, has_peer, message_at, calls, takes, Happens}
use Rattle.replica_model.proofs.Carried.{left_as_is, same_replicas, same_messages}
use Rattle.replica_model.proofs.Fronts.{same_after_calls}
use Rattle.replica_model.proofs.Leaving.{same_calls}
use Rattle.replica_world.proofs.Kept.{mails_more}

-- the system did so, and the world shows what came of it
pub record Did (hash_of : List ℕ → ℕ) (s : System) (e : Event) (answer : Answer) (v : World) : Type 0 where
  pub new : Replica
  pub out : List Mail
  pub does : Does hash_of s e new answer out
  pub shows : Shows v (crashing.goes hash_of s e new out)

put_itself : {X : Type 0} (f : ℕ → X) (name n : ℕ) (b : Bool) → (n == name) ≡ b → f n ≡ cond b (f name) (f n)
put_itself f name n true is = let named : n ≡ name = grind (arith, nat_tests) in ap f named
put_itself f name n false is = refl

peer_same : (w : World) (s : System) (c : Call) → w.nodes ≡ s.nodes → has_peer w c ≡ true → peer_in s.nodes c ≡ true
peer_same w s (Put place value) nodes is = refl
peer_same w s (Remove key) nodes is = refl
peer_same w s (RemoveField place) nodes is = refl
peer_same w s Clear nodes is = refl
peer_same w s Flush nodes is = refl
peer_same w s (Ask peer) nodes is = ap (λ ns. is_among ns peer) (sym nodes) ∙ is
peer_same w s (Retry number) nodes is = refl
peer_same w s (Abandon number) nodes is = refl
peer_same w s Restart nodes is = refl

get_map : {X Y : Type 0} (f : X → Y) (xs : List X) (n : ℕ) → slice_get (map f xs) n ≡ option_map f (slice_get xs n)
get_map f [] n = refl
get_map f (x ∷ xs) zero = refl
get_map f (x ∷ xs) (suc n) = get_map f xs n

none_some : {X : Type 0} (x : X) → None ≡ Some x → ⊥
none_some x e = absurd cc

mail_found : (ms : List Message) (number : ℕ) (m : Message) → message_at ms number ≡ Some m → mail_at (map (λ (x : Message). x.mail) ms) number ≡ Some m.mail
mail_found ms zero m found = absurd (none_some m found)
mail_found ms (suc n) m found = get_map (λ (x : Message). x.mail) ms n ∙ ap (option_map (λ (x : Message). x.mail)) found

module _ (hash_of : List ℕ → ℕ) (w : World) (s : System) (shows : Shows w s) where
  there : (name : ℕ) (b : Bool) → is_node w name ≡ b → is_among s.nodes name ≡ b
  there name b is = ap (λ ns. is_among ns name) (sym shows.nodes) ∙ is

  stepped : (name : ℕ) (act : Act) (new : Replica) (answer : Answer) (out : List Mail) → IsStep hash_of (w.replica name) act new answer out
      → IsStep hash_of (s.replica name) act new answer out
  stepped name act new answer out = subst (λ r. IsStep hash_of r act new answer out) (shows.replica name)

  node : (name : ℕ) (answer : Answer) (v : World) → Happens hash_of w (Node name) answer v → Did hash_of s (Node name) answer v
  node name answer v (free, nothing, is) = subst (Did hash_of s (Node name) answer) (sym is) (record {
    new = s.replica name;
    out = [];
    does = (there name false free, refl, nothing, refl);
    shows = record {
      nodes = ap (λ ns. ns ++ name ∷ []) shows.nodes;
      replica = λ n. shows.replica n ∙ put_itself s.replica name n (n == name) refl;
      messages = shows.messages ∙ sym (append-nil s.messages);
    };
  })

  call : (name : ℕ) (c : Call) (answer : Answer) (v : World) → Happens hash_of w (At name c) answer v → Did hash_of s (At name c) answer v
  call name c answer v (here, peer, (new, out, step, is)) =
      let u = calls name c w in
      let group = w.outgoing name in
      subst (Did hash_of s (At name c) answer) (sym is) (record {
        new = new;
        out = out;
        does = (there name true here, peer_same w s c shows.nodes peer, stepped name (Do c) new answer out step);
        shows = record {
          nodes = (same_calls w name c).1 ∙ shows.nodes;
          replica = λ n. ap (cond (n == name) new) (ap (λ f. f n) (same_after_calls hash_of w name c) ∙ shows.replica n);
          messages = mails_more u.messages group u.kept new.kept out ∙ ap (λ ms. map (λ (x : Message). x.mail) ms ++ out) (same_calls w name c).0
              ∙ ap (λ ms. ms ++ out) shows.messages;
        };
      })

  delivery : (number name : ℕ) (answer : Answer) (v : World) → Happens hash_of w (Deliver number name) answer v → Did hash_of s (Deliver number name) answer v
  delivery number name answer v (here, (m, found, (new, outcome, out, came, step, is))) =
      let was = w.replica name in
      let u = takes name was m.mail m.of outcome w in
      subst (Did hash_of s (Deliver number name) answer) (sym is) (record {
        new = new;
        out = out;
        does = (
          there name true here,
          (
            m.mail,
            ap (λ ms. mail_at ms number) (sym shows.messages) ∙ mail_found w.messages number m found,
            stepped name (Take m.mail) new answer out step,
          ),
        );
        shows = record {
          nodes = left_as_is name (λ x. x.nodes) (λ x n. refl) (λ x o s. refl) (λ x s o. refl) (λ x s t. refl) (λ x o f t. refl) w was m.mail m.of outcome
              ∙ shows.nodes;
          replica = λ n. ap (cond (n == name) new) (ap (λ f. f n) (same_replicas w name was m.mail m.of outcome) ∙ shows.replica n);
          messages = mails_more u.messages [] u.kept new.kept out
              ∙ ap (λ ms. map (λ (x : Message). x.mail) ms ++ out) (same_messages w name was m.mail m.of outcome) ∙ ap (λ ms. ms ++ out) shows.messages;
        };
      })

  pub did : (e : Event) (answer : Answer) (v : World) → Happens hash_of w e answer v → Did hash_of s e answer v
  did (Node name) answer v happens = node name answer v happens
  did (At name c) answer v happens = call name c answer v happens
  did (Deliver number name) answer v happens = delivery number name answer v happens
