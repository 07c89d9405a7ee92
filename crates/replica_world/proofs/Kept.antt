-- How a world keeps its events from one to the next: over plain variables.
use Rattle.std.proofs.Common.{◌≡◌, ◌≢◌, ℕ, ◌==◌, Bool, true, false, cond, List, [], ◌∷◌, ◌++◌, map, Some, is_some, refl, sym, ap, ◌∙◌, subst, arith}
use Rattle.std.proofs.lemmas.Bool.Decides.{nat_tests}
use Rattle.std.proofs.lemmas.List.{map-append}
use Rattle.std.proofs.lemmas.Option.{same_Some}
use Rattle.std.specs.BTreeMap.{BTreeMap, get}
use Rattle.std.specs.Ordering.{nat_cmp}
use Rattle.op_model.specs.Operation.{Operation}
use Rattle.op_model.specs.World.{is_among}
use Rattle.wire_form.specs.Session.{SessionValue}
use Rattle.replica_model.specs.Mail.{Mail, mail_of}
use Rattle.replica_model.specs.Replica.{Kept, fresh}
use Rattle.replica_model.specs.Step.{Call, Answer, Do, Take, IsStep}
use Rattle.replica_model.specs.World.{World, Message, At, Deliver, is_node, has_peer, message_at, goes, calls, takes, sent_as, Happens}
use Rattle.replica_model.proofs.Carried.{left_as_is, same_replicas, same_messages}
use Rattle.replica_model.proofs.Fronts.{same_after_calls}
use Rattle.replica_model.proofs.Leaving.{same_calls}
use Rattle.replica_core.specs.Meaning.{ReplicaValue, hash_in, meaning}
use Rattle.replica_core.specs.Stepping.{Steps, Stays}
use Rattle.replica_world.specs.Keeping.{Keeps, MakesCall, TakesMail}
use Rattle.replica_world.specs.Replaces.{Replaces}
use Rattle.replica_model.specs.Spelled.{AreSpelled}
use Rattle.replica_world.proofs.Spelt.{posted_spelled}

-- the mails of what is sent
pub mails_sent : (group : List Operation) (kept : SessionValue → List Operation) (ks : List Kept) (out : List Mail)
    → map (λ (m : Message). m.mail) (map (sent_as group kept ks) out) ≡ out
mails_sent group kept ks [] = refl
mails_sent group kept ks (m ∷ out) = ap (λ ms. m ∷ ms) (mails_sent group kept ks out)

pub mails_more : (ms : List Message) (group : List Operation) (kept : SessionValue → List Operation) (ks : List Kept) (out : List Mail)
    → map (λ (m : Message). m.mail) (ms ++ map (sent_as group kept ks) out) ≡ map (λ (m : Message). m.mail) ms ++ out
mails_more ms group kept ks out = map-append (λ (m : Message). m.mail) ms (map (sent_as group kept ks) out)
    ∙ ap (λ o. map (λ (m : Message). m.mail) ms ++ o) (mails_sent group kept ks out)

clash : true ≡ false → ⊥
clash e = absurd cc

module _ {Hash : Type 0} (hash : Hash) (old new : BTreeMap ℕ (ReplicaValue Hash)) (messages more : List (List ℕ)) (w : World)
    (keeps : Keeps hash old messages w) where
  -- one replica is another, and messages are behind the others
  pub keeps_at : (name : ℕ) (before after : ReplicaValue Hash) → Replaces old new name before after → hash_in after ≡ hash_in before → (v : World)
      → v.nodes ≡ w.nodes
      → ((n : ℕ) → v.replica n ≡ cond (n == name) (meaning after) (w.replica n)) → AreSpelled more (map (λ (m : Message). m.mail) v.messages)
      → Keeps hash new more v
  keeps_at name before after replaces hashed v nodes replica spelled = record {
    there = λ n. there_at n (n == name) refl ∙ ap (λ ns. is_among ns n) (sym nodes);
    means = λ n r is. means_at n r is (n == name) refl ∙ sym (replica n);
    hashed = λ n r is. by_hash n r is (n == name) refl;
    absent = λ n out. let none : is_node w n ≡ false = ap (λ ns. is_among ns n) (sym nodes) ∙ out in replica n ∙ absent_at n none (n == name) refl;
    spelled = spelled;
  }
    where
      there_at : (n : ℕ) (b : Bool) → (n == name) ≡ b → is_some (get nat_cmp new n) ≡ is_node w n
      there_at n true is =
          let named : n ≡ name = grind (arith, nat_tests) in
          rw named (ap is_some replaces.becomes ∙ ap is_some (sym replaces.was) ∙ keeps.there name)
      there_at n false is = let apart : n ≢ name = grind (arith, nat_tests) in ap is_some (replaces.others n apart) ∙ keeps.there n

      means_at : (n : ℕ) (r : ReplicaValue Hash) → get nat_cmp new n ≡ Some r → (b : Bool) → (n == name) ≡ b
          → meaning r ≡ cond (n == name) (meaning after) (w.replica n)
      means_at n r is true eqn =
          let named : n ≡ name = grind (arith, nat_tests) in
          let found : get nat_cmp new name ≡ Some r = subst (λ m. get nat_cmp new m ≡ Some r) named is in
          let same : r ≡ after = same_Some _ _ (sym found ∙ replaces.becomes) in
          rw eqn (ap meaning same)
      means_at n r is false eqn =
          let apart : n ≢ name = grind (arith, nat_tests) in
          rw eqn (keeps.means n r (sym (replaces.others n apart) ∙ is))

      by_hash : (n : ℕ) (r : ReplicaValue Hash) → get nat_cmp new n ≡ Some r → (b : Bool) → (n == name) ≡ b → hash_in r ≡ hash
      by_hash n r is true eqn =
          let named : n ≡ name = grind (arith, nat_tests) in
          let found : get nat_cmp new name ≡ Some r = subst (λ m. get nat_cmp new m ≡ Some r) named is in
          ap hash_in (same_Some _ _ (sym found ∙ replaces.becomes)) ∙ hashed ∙ keeps.hashed name before replaces.was
      by_hash n r is false eqn = let apart : n ≢ name = grind (arith, nat_tests) in keeps.hashed n r (sym (replaces.others n apart) ∙ is)

      absent_at : (n : ℕ) → is_node w n ≡ false → (b : Bool) → (n == name) ≡ b → cond (n == name) (meaning after) (w.replica n) ≡ fresh n
      absent_at n out true eqn =
          let named : n ≡ name = grind (arith, nat_tests) in
          let is : is_node w name ≡ true = sym (keeps.there name) ∙ ap is_some replaces.was in
          absurd (clash (sym (ap (is_node w) named ∙ is) ∙ out))
      absent_at n out false eqn = rw eqn (keeps.absent n out)

  -- a replica that stays what it means
  pub keeps_stayed : (name : ℕ) (before after : ReplicaValue Hash) → Replaces old new name before after → Stays before after → more ≡ messages
      → Keeps hash new more w
  keeps_stayed name before after replaces stays same =
      keeps_at name before after replaces stays.hash w refl
      (λ n. go n (n == name) refl)
      (subst (λ ms. AreSpelled ms (map (λ (m : Message). m.mail) w.messages)) (sym same) keeps.spelled)
    where
      go : (n : ℕ) (b : Bool) → (n == name) ≡ b → w.replica n ≡ cond (n == name) (meaning after) (w.replica n)
      go n true eqn =
          let named : n ≡ name = grind (arith, nat_tests) in
          rw eqn (ap w.replica named ∙ sym (keeps.means name before replaces.was) ∙ sym stays.same)
      go n false eqn = rw eqn refl

  module _ (hash_of : Hash → List ℕ → ℕ) (name : ℕ) (before after : ReplicaValue Hash) (replaces : Replaces old new name before after) where
    is_there : is_node w name ≡ true
    is_there = sym (keeps.there name) ∙ ap is_some replaces.was

    step_at : (act : Rattle.replica_model.specs.Step.Act) (answer : Answer) (out : List Mail) → Steps hash_of before after act answer out
        → IsStep (hash_of hash) (w.replica name) act (meaning after) answer out
    step_at act answer out steps =
        subst (λ h. IsStep (hash_of h) (w.replica name) act (meaning after) answer out) (keeps.hashed name before replaces.was)
        (subst (λ r. IsStep (hash_of (hash_in before)) r act (meaning after) answer out) (keeps.means name before replaces.was) steps.step)

    -- a call
    pub call_keeps : (c : Call) (answer : Answer) → has_peer w c ≡ true → MakesCall hash_of before after c answer messages more → (v : World)
        × Happens (hash_of hash) w (At name c) answer v × Keeps hash new more v
    call_keeps c answer peer (out, steps, posted) =
        let group = w.outgoing name in
        let u = calls name c w in
        let v = goes name (meaning after) (map mail_of out) group u in (
          v,
          (is_there, peer, (meaning after, map mail_of out, step_at (Do c) answer (map mail_of out) steps, refl)),
          keeps_at name before after replaces steps.hash v (same_calls w name c).1
              (λ n. ap (cond (n == name) (meaning after)) (ap (λ f. f n) (same_after_calls (hash_of hash) w name c)))
              (subst (AreSpelled more) (ap (λ ms. map (λ (m : Message). m.mail) ms ++ map mail_of out) (sym (same_calls w name c).0)
              ∙ sym (mails_more u.messages group u.kept (meaning after).kept (map mail_of out)))
              (posted_spelled messages more out (map (λ (m : Message). m.mail) w.messages) posted keeps.spelled)),
        )

    -- a delivery
    pub take_keeps : (number : ℕ) (m : Message) (answer : Answer) → message_at w.messages number ≡ Some m
        → TakesMail hash_of before after m.mail answer messages more
        → (v : World) × Happens (hash_of hash) w (Deliver number name) answer v × Keeps hash new more v
    take_keeps number m answer found (out, steps, posted) = with_outcome (step_at (Take m.mail) answer (map mail_of out) steps)
      where
        with_outcome : IsStep (hash_of hash) (w.replica name) (Take m.mail) (meaning after) answer (map mail_of out)
            → (v : World) × Happens (hash_of hash) w (Deliver number name) answer v × Keeps hash new more v
        with_outcome (outcome, came, delivery) =
            let was = w.replica name in
            let u = takes name was m.mail m.of outcome w in
            let v = goes name (meaning after) (map mail_of out) [] u in (
              v,
              (is_there, (m, found, (meaning after, outcome, map mail_of out, came, (outcome, came, delivery), refl))),
              keeps_at name before after replaces steps.hash v
                  (left_as_is name (λ x. x.nodes) (λ x n. refl) (λ x o s. refl) (λ x s o. refl) (λ x s t. refl) (λ x o f t. refl) w was m.mail m.of outcome)
                  (λ n. ap (cond (n == name) (meaning after)) (ap (λ f. f n) (same_replicas w name was m.mail m.of outcome)))
                  (subst (AreSpelled more)
                  (ap (λ ms. map (λ (x : Message). x.mail) ms ++ map mail_of out) (sym (same_messages w name was m.mail m.of outcome))
                  ∙ sym (mails_more u.messages [] u.kept (meaning after).kept (map mail_of out)))
                  (posted_spelled messages more out (map (λ (x : Message). x.mail) w.messages) posted keeps.spelled)),
            )
