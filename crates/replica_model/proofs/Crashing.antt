-- What runs, whichever replicas crash, is the world to which what is left leads.
use Rattle.std.proofs.Common.{◌≡◌, ◌≢◌, ℕ, ◌+◌, ◌==◌, List, [], ◌∷◌, ◌++◌, map, Bool, true, false, cond, refl, sym, ap, ◌∙◌, subst}
use Rattle.std.proofs.Common.{eqb-true, append_assoc}
use Rattle.std.proofs.lemmas.Bool.{false≢true}
use Rattle.std.proofs.lemmas.List.{append-nil, length-append}
use Rattle.op_model.specs.World.{is_among}
use Rattle.replica_model.specs.Replica.{restarts}
use Rattle.replica_model.specs.Step.{Restart, Answer, Nothing}
use Rattle.replica_model.specs.Step as call
use Rattle.replica_model.specs.World.{World, Event, Node, At, Deliver, Message, nothing}
use Rattle.replica_model.specs.World.{goes, Happens}
use Rattle.replica_model.specs.Happened.{Happened, Leads}
use Rattle.replica_model.specs.Laws.{replica_of}
use Rattle.replica_model.specs.Crashing as crashing
use Rattle.replica_model.specs.Crashing.{System, started, Occurrence, Saving, Passing, Saves, Crashes, put, Occurs, Goes}
use Rattle.replica_model.specs.Crashing.{is_lost, may_be_lost, unless_lost, restarted, left, CrashesTakeBack}
use Rattle.replica_model.proofs.SameAt.{Common, Own, IsWorld, IsNoNode, Did, common, own_at, here, did, did_node, none_sent, sends_as_many, elsewhere}
use Rattle.replica_model.proofs.Telling.{leads_go_on}

-- ---- what is left, as one more occurs

before : Occurrence → (ℕ → Bool) → ℕ → Bool
before (Saving h) lost = λ m. cond (m == replica_of h.event) false (lost m)
before (Passing h) lost = lost
before (Saves n) lost = λ m. cond (m == n) false (lost m)
before (Crashes n) lost = λ m. cond (m == n) true (lost m)

lost_on : (lost : ℕ → Bool) (x : Occurrence) (xs : List Occurrence) (m : ℕ) → is_lost lost m (xs ++ x ∷ []) ≡ is_lost (before x lost) m xs
unfolding before
lost_on lost (Saving h) [] m = refl
lost_on lost (Passing h) [] m = refl
lost_on lost (Saves n) [] m = refl
lost_on lost (Crashes n) [] m = refl
lost_on lost x (Saving h ∷ xs) m = ap (λ b. cond (m == replica_of h.event) false b) (lost_on lost x xs m)
lost_on lost x (Passing h ∷ xs) m = lost_on lost x xs m
lost_on lost x (Saves n ∷ xs) m = ap (λ b. cond (m == n) false b) (lost_on lost x xs m)
lost_on lost x (Crashes n ∷ xs) m = ap (λ b. cond (m == n) true b) (lost_on lost x xs m)

left_on : (lost : ℕ → Bool) (x : Occurrence) (xs : List Occurrence) → left lost (xs ++ x ∷ []) ≡ left (before x lost) xs ++ left lost (x ∷ [])
left_on lost x [] = refl
left_on lost x (Saving h ∷ xs) = ap (λ hs. h ∷ hs) (left_on lost x xs)
left_on lost x (Passing h ∷ xs) =
    (λ i. unless_lost (lost_on lost x xs (replica_of h.event) i) h ++ left_on lost x xs i)
    ∙ sym (append_assoc (unless_lost (is_lost (before x lost) (replica_of h.event) xs) h) (left (before x lost) xs) (left lost (x ∷ [])))
left_on lost x (Saves n ∷ xs) = left_on lost x xs
left_on lost x (Crashes n ∷ xs) = ap (λ hs. restarted n ∷ hs) (left_on lost x xs)

module _ (hash_of : List ℕ → ℕ) where
  -- ---- for each set of replicas that crash, the world in which these are as they were saved

  record Stands (lost : ℕ → Bool) (now : World) (saved : ℕ → Own) (w : World) : Type 0 where
    same : common w ≡ common now
    own : (n : ℕ) → own_at n w ≡ cond (lost n) (saved n) (own_at n now)

  record Holds (xs : List Occurrence) (s : System) : Type 0 where
    now : World
    saved : ℕ → Own
    is_world : IsWorld now s
    is_saved : (n : ℕ) → (saved n).replica ≡ s.saved n
    worlds : (lost : ℕ → Bool) → (w : World) × Leads hash_of nothing (left lost xs) w × Stands lost now saved w

  -- either way
  both : {X : Type 0} (b : Bool) (x y : X) → x ≡ y → x ≡ cond b x y
  both true x y e = refl
  both false x y e = e

  -- where it stands at a name that is not lost, the world is the same there
  stands_here : (lost : ℕ → Bool) (now : World) (saved : ℕ → Own) (w : World) (n : ℕ) → Stands lost now saved w → lost n ≡ false → here n w ≡ here n now
  stands_here lost now saved w n st e = λ i. (st.same i, (st.own n ∙ ap (λ b. cond b (saved n) (own_at n now)) e) i)

  leads_to : (xs ys : List Happened) (w : World) → xs ≡ ys → Leads hash_of nothing ys w → Leads hash_of nothing xs w
  leads_to xs ys w e leads = subst (λ hs. Leads hash_of nothing hs w) (sym e) leads

  itself : (n : ℕ) → (n == n) ≡ true
  itself n = Rattle.std.proofs.Common.eq-eqb n n refl

  -- a saved event
  next_saving : (xs : List Occurrence) (s t : System) (x : Happened) → Holds xs s → Occurs hash_of s (Saving x) t → Holds (xs ++ Saving x ∷ []) t
  unfolding before
  next_saving xs s t x h (new, out, does, counted, is) = subst (Holds (xs ++ Saving x ∷ [])) (sym is) (record {
    now = d.next;
    saved = put h.saved n (own_at n d.next);
    is_world = record { nodes = d.is_world.nodes; replica = d.is_world.replica; mails_are = d.is_world.mails_are };
    is_saved = λ m. saved_here m (m == n) refl;
    worlds = λ lost. goes_to lost (h.worlds (before (Saving x) lost));
  })
    where
      n : ℕ
      n = replica_of x.event

      d : Did hash_of h.now s x.event new x.answer out
      d = did hash_of h.now s x.event new x.answer out h.is_world does

      saved_here : (m : ℕ) (b : Bool) → (m == n) ≡ b → (cond b (own_at n d.next) (h.saved m)).replica ≡ cond b new (s.saved m)
      saved_here m true eq = d.is_world.replica n ∙ ap (λ b. cond b new (s.replica n)) (itself n)
      saved_here m false eq = h.is_saved m

      goes_to : (lost : ℕ → Bool) → (w : World) × Leads hash_of nothing (left (before (Saving x) lost) xs) w × Stands (before (Saving x) lost) h.now h.saved w
          → (w : World) × Leads hash_of nothing (left lost (xs ++ Saving x ∷ [])) w × Stands lost d.next (put h.saved n (own_at n d.next)) w
      goes_to lost (w, leads, st) =
          let a = d.again w (stands_here (before (Saving x) lost) h.now h.saved w n st (ap (λ b. cond b false (lost n)) (itself n))) in (
            a.0,
            leads_to _ _ a.0 (left_on lost (Saving x) xs)
                (leads_go_on hash_of (left (before (Saving x) lost) xs) w a.0 x leads a.1
                (sends_as_many h.now d.next w a.0 out x.sent d.sends counted st.same (ap (λ (p : Common × Own). p.0) a.2))),
            record { same = ap (λ (p : Common × Own). p.0) a.2; own = λ m. own m (m == n) refl a.0 a.1 (ap (λ (p : Common × Own). p.1) a.2) },
          )
        where
          own : (m : ℕ) (b : Bool) → (m == n) ≡ b → (v : World) → Happens hash_of w x.event x.answer v → own_at n v ≡ own_at n d.next
              → own_at m v ≡ cond (lost m) (cond b (own_at n d.next) (h.saved m)) (own_at m d.next)
          own m true eq v happens one =
              ap (λ k. own_at k v) (eqb-true m n eq) ∙ one ∙ both (lost m) (own_at n d.next) (own_at m d.next)
              (ap (λ k. own_at k d.next) (sym (eqb-true m n eq)))
          own m false eq v happens one =
              let apart : m ≢ n = λ same. false≢true (sym eq ∙ Rattle.std.proofs.Common.eq-eqb m n same) in
              elsewhere hash_of w v x.event x.answer happens m apart
              ∙ st.own m
              ∙ ap (λ b. cond (cond b false (lost m)) (h.saved m) (own_at m h.now)) eq
              ∙ ap (λ o. cond (lost m) (h.saved m) o) (sym (elsewhere hash_of h.now d.next x.event x.answer d.happens m apart))

  -- an event that was not saved
  next_passing : (xs : List Occurrence) (s t : System) (x : Happened) → IsNoNode x.event → may_be_lost x.event ≡ true → Holds xs s
      → Occurs hash_of s (Passing x) t → Holds (xs ++ Passing x ∷ []) t
  unfolding before
  next_passing xs s t x node may_be h (new, does, none, apart, is) = subst (Holds (xs ++ Passing x ∷ [])) (sym is) (record {
    now = d.next;
    saved = h.saved;
    is_world = record { nodes = d.is_world.nodes; replica = d.is_world.replica; mails_are = d.is_world.mails_are };
    is_saved = h.is_saved;
    worlds = λ lost. goes_to lost (lost n) refl (h.worlds lost);
  })
    where
      n : ℕ
      n = replica_of x.event

      d : Did hash_of h.now s x.event new x.answer []
      d = did hash_of h.now s x.event new x.answer [] h.is_world does

      quiet : common d.next ≡ common h.now
      quiet = d.quiet refl apart node

      others : (m : ℕ) → (m == n) ≡ false → own_at m d.next ≡ own_at m h.now
      others m eq = elsewhere hash_of h.now d.next x.event x.answer d.happens m (λ same. false≢true (sym eq ∙ Rattle.std.proofs.Common.eq-eqb m n same))

      unless : (b : Bool) → unless_lost b x ≡ cond b [] (x ∷ [])
      unless true = ap (λ c. cond c [] (x ∷ [])) may_be
      unless false = refl

      one_more : (lost : ℕ → Bool) (b : Bool) → lost n ≡ b → left lost (xs ++ Passing x ∷ []) ≡ left lost xs ++ cond b [] (x ∷ [])
      one_more lost b eq =
          left_on lost (Passing x) xs
          ∙ ap (λ hs. left lost xs ++ hs) (append-nil (unless_lost (lost n) x) ∙ ap (λ c. unless_lost c x) eq ∙ unless b)

      goes_to : (lost : ℕ → Bool) (b : Bool) → lost n ≡ b → (w : World) × Leads hash_of nothing (left lost xs) w × Stands lost h.now h.saved w
          → (w : World) × Leads hash_of nothing (left lost (xs ++ Passing x ∷ [])) w × Stands lost d.next h.saved w
      goes_to lost true eq (w, leads, st) = (
        w,
        leads_to _ _ w (one_more lost true eq ∙ append-nil (left lost xs)) leads,
        record { same = st.same ∙ sym quiet; own = λ m. st.own m ∙ stays m (m == n) refl },
      )
        where
          stays : (m : ℕ) (b : Bool) → (m == n) ≡ b → cond (lost m) (h.saved m) (own_at m h.now) ≡ cond (lost m) (h.saved m) (own_at m d.next)
          stays m true at =
              let gone : lost m ≡ true = ap lost (eqb-true m n at) ∙ eq in
              ap (λ b. cond b (h.saved m) (own_at m h.now)) gone ∙ sym (ap (λ b. cond b (h.saved m) (own_at m d.next)) gone)
          stays m false at = ap (λ o. cond (lost m) (h.saved m) o) (sym (others m at))
      goes_to lost false eq (w, leads, st) =
          let a = d.again w (stands_here lost h.now h.saved w n st eq) in (
            a.0,
            leads_to _ _ a.0 (one_more lost false eq)
                (leads_go_on hash_of (left lost xs) w a.0 x leads a.1
                (sends_as_many h.now d.next w a.0 [] x.sent d.sends (sym none) st.same (ap (λ (p : Common × Own). p.0) a.2))),
            record { same = ap (λ (p : Common × Own). p.0) a.2; own = λ m. own m (m == n) refl a.0 a.1 (ap (λ (p : Common × Own). p.1) a.2) },
          )
        where
          own : (m : ℕ) (b : Bool) → (m == n) ≡ b → (v : World) → Happens hash_of w x.event x.answer v → own_at n v ≡ own_at n d.next
              → own_at m v ≡ cond (lost m) (h.saved m) (own_at m d.next)
          own m true at v happens one =
              let there : lost m ≡ false = ap lost (eqb-true m n at) ∙ eq in
              ap (λ k. own_at k v) (eqb-true m n at) ∙ one ∙ ap (λ k. own_at k d.next) (sym (eqb-true m n at))
              ∙ sym (ap (λ b. cond b (h.saved m) (own_at m d.next)) there)
          own m false at v happens one =
              elsewhere hash_of w v x.event x.answer happens m (λ same. false≢true (sym at ∙ Rattle.std.proofs.Common.eq-eqb m n same))
              ∙ st.own m
              ∙ ap (λ o. cond (lost m) (h.saved m) o) (sym (others m at))

  -- a replica is there, and was not saved
  abbrev new_node : ℕ → Answer → ℕ → Happened
  new_node name answer sent = record { event = Node name; answer = answer; sent = sent }

  next_node : (xs : List Occurrence) (s t : System) (name : ℕ) (answer : Answer) (sent : ℕ) → Holds xs s → Occurs hash_of s (Passing (new_node name answer sent)) t
      → Holds (xs ++ Passing (new_node name answer sent) ∷ []) t
  unfolding before
  next_node xs s t name answer sent h (new, (absent, n, a, o), none, apart, is) = subst (Holds (xs ++ Passing (new_node name answer sent) ∷ [])) (sym is) (record {
    now = d.next;
    saved = h.saved;
    is_world = record { nodes = d.is_world.nodes; replica = d.is_world.replica; mails_are = d.is_world.mails_are };
    is_saved = h.is_saved;
    worlds = λ lost. goes_to lost (h.worlds lost);
  })
    where
      d : Did hash_of h.now s (Node name) new answer []
      d = did_node hash_of h.now s name new answer [] h.is_world (absent, n, a, o)

      is_next : d.next ≡ record h.now { nodes = h.now.nodes ++ name ∷ [] }
      is_next = d.happens.2

      never : (b : Bool) → unless_lost b (new_node name answer sent) ≡ new_node name answer sent ∷ []
      never true = refl
      never false = refl

      goes_to : (lost : ℕ → Bool) → (w : World) × Leads hash_of nothing (left lost xs) w × Stands lost h.now h.saved w
          → (w : World) × Leads hash_of nothing (left lost (xs ++ Passing (new_node name answer sent) ∷ [])) w × Stands lost d.next h.saved w
      goes_to lost (w, leads, st) =
          let v : World = record w { nodes = w.nodes ++ name ∷ [] } in
          let happens : Happens hash_of w (Node name) answer v = (ap (λ (c : Common). is_among c.nodes name) st.same ∙ d.happens.0, a, refl) in
          let same : common v ≡ common d.next = ap (λ (c : Common). record c { nodes = c.nodes ++ name ∷ [] }) st.same ∙ sym (ap common is_next) in (
            v,
            leads_to _ _ v (left_on lost (Passing (new_node name answer sent)) xs ∙ ap (λ hs. left lost xs ++ hs) (append-nil _ ∙ never (lost name)))
                (leads_go_on hash_of (left lost xs) w v (new_node name answer sent) leads happens
                (sends_as_many h.now d.next w v [] sent d.sends (sym none) st.same same)),
            record {
              same = same;
              own = λ m. st.own m ∙ ap (λ o. cond (lost m) (h.saved m) o) (sym (ap (own_at m) is_next));
            },
          )

  -- a replica is saved
  next_saves : (xs : List Occurrence) (s t : System) (n : ℕ) → Holds xs s → Occurs hash_of s (Saves n) t → Holds (xs ++ Saves n ∷ []) t
  unfolding before
  next_saves xs s t n h is = subst (Holds (xs ++ Saves n ∷ [])) (sym is) (record {
    now = h.now;
    saved = put h.saved n (own_at n h.now);
    is_world = record { nodes = h.is_world.nodes; replica = h.is_world.replica; mails_are = h.is_world.mails_are };
    is_saved = λ m. saved_here m (m == n);
    worlds = λ lost. goes_to lost (h.worlds (before (Saves n) lost));
  })
    where
      saved_here : (m : ℕ) (b : Bool) → (cond b (own_at n h.now) (h.saved m)).replica ≡ cond b (s.replica n) (s.saved m)
      saved_here m true = h.is_world.replica n
      saved_here m false = h.is_saved m

      goes_to : (lost : ℕ → Bool) → (w : World) × Leads hash_of nothing (left (before (Saves n) lost) xs) w × Stands (before (Saves n) lost) h.now h.saved w
          → (w : World) × Leads hash_of nothing (left lost (xs ++ Saves n ∷ [])) w × Stands lost h.now (put h.saved n (own_at n h.now)) w
      goes_to lost (w, leads, st) = (
        w,
        leads_to _ _ w (left_on lost (Saves n) xs ∙ append-nil (left (before (Saves n) lost) xs)) leads,
        record { same = st.same; own = λ m. st.own m ∙ own m (m == n) refl },
      )
        where
          own : (m : ℕ) (b : Bool) → (m == n) ≡ b → cond (cond b false (lost m)) (h.saved m) (own_at m h.now)
              ≡ cond (lost m) (cond b (own_at n h.now) (h.saved m)) (own_at m h.now)
          own m true eq = ap (λ k. own_at k h.now) (eqb-true m n eq)
              ∙ both (lost m) (own_at n h.now) (own_at m h.now) (ap (λ k. own_at k h.now) (sym (eqb-true m n eq)))
          own m false eq = refl

  -- a replica crashes, and comes back
  abbrev restarted_own : Own → Own
  restarted_own o = record { replica = restarts o.replica; seen = o.seen; outgoing = o.outgoing }

  next_crashes : (xs : List Occurrence) (s t : System) (n : ℕ) → Holds xs s → Occurs hash_of s (Crashes n) t → Holds (xs ++ Crashes n ∷ []) t
  unfolding before
  next_crashes xs s t n h (there, is) = subst (Holds (xs ++ Crashes n ∷ [])) (sym is) (record {
    now = v;
    saved = put h.saved n (own_at n v);
    is_world = record {
      nodes = ap (λ (c : Common). c.nodes) st_one.same ∙ h.is_world.nodes;
      replica = λ m. replica_here m (m == n) refl;
      mails_are = ap (λ (c : Common). map (λ (x : Message). x.mail) c.messages) (none_sent n (restarts (one.replica n)) (one.outgoing n) one ∙ st_one.same)
          ∙ h.is_world.mails_are;
    };
    is_saved = λ m. saved_here m (m == n);
    worlds = λ lost. goes_to lost (h.worlds (before (Crashes n) lost));
  })
    where
      alone : ℕ → Bool
      alone = λ m. cond (m == n) true false

      one : World
      one = (h.worlds alone).0

      st_one : Stands alone h.now h.saved one
      st_one = (h.worlds alone).2

      after : World → World
      after w = goes n (restarts (w.replica n)) [] (w.outgoing n) w

      v : World
      v = goes n (restarts (one.replica n)) [] (one.outgoing n) one

      happens_in : (w : World) → common w ≡ common h.now → Happens hash_of w (At n Restart) Nothing (goes n (restarts (w.replica n)) [] (w.outgoing n) w)
      happens_in w same = (
        ap (λ (c : Common). is_among c.nodes n) same ∙ ap (λ ns. is_among ns n) h.is_world.nodes ∙ there,
        refl,
        (restarts (w.replica n), [], (refl, refl, refl), refl),
      )

      saved_there : (lost : ℕ → Bool) (w : World) → lost n ≡ true → Stands lost h.now h.saved w → own_at n w ≡ h.saved n
      saved_there lost w gone st = st.own n ∙ ap (λ b. cond b (h.saved n) (own_at n h.now)) gone

      restarted_there : (w : World) → own_at n w ≡ h.saved n → own_at n (goes n (restarts (w.replica n)) [] (w.outgoing n) w) ≡ restarted_own (h.saved n)
      restarted_there w e = (λ i. record { replica = cond (itself n i) (restarts (w.replica n)) (w.replica n); seen = w.seen n; outgoing = w.outgoing n })
          ∙ ap restarted_own e

      alone_gone : alone n ≡ true
      alone_gone = ap (λ b. cond b true false) (itself n)

      now_here : own_at n v ≡ restarted_own (h.saved n)
      now_here = restarted_there one (saved_there alone one alone_gone st_one)

      others : (w : World) (m : ℕ) → (m == n) ≡ false → own_at m (goes n (restarts (w.replica n)) [] (w.outgoing n) w) ≡ own_at m w
      others w m eq = λ i. record { replica = cond (eq i) (restarts (w.replica n)) (w.replica m); seen = w.seen m; outgoing = w.outgoing m }

      now_there : (m : ℕ) → (m == n) ≡ false → own_at m v ≡ own_at m h.now
      now_there m eq = others one m eq ∙ st_one.own m ∙ ap (λ b. cond (cond b true false) (h.saved m) (own_at m h.now)) eq

      replica_here : (m : ℕ) (b : Bool) → (m == n) ≡ b → v.replica m ≡ cond b (restarts (s.saved n)) (s.replica m)
      replica_here m true eq = ap (λ k. v.replica k) (eqb-true m n eq) ∙ ap (λ (o : Own). o.replica) now_here ∙ ap restarts (h.is_saved n)
      replica_here m false eq = ap (λ (o : Own). o.replica) (now_there m eq) ∙ h.is_world.replica m

      saved_here : (m : ℕ) (b : Bool) → (cond b (own_at n v) (h.saved m)).replica ≡ cond b (restarts (s.saved n)) (s.saved m)
      saved_here m true = ap (λ (o : Own). o.replica) now_here ∙ ap restarts (h.is_saved n)
      saved_here m false = h.is_saved m

      goes_to : (lost : ℕ → Bool) → (w : World) × Leads hash_of nothing (left (before (Crashes n) lost) xs) w × Stands (before (Crashes n) lost) h.now h.saved w
          → (w : World) × Leads hash_of nothing (left lost (xs ++ Crashes n ∷ [])) w × Stands lost v (put h.saved n (own_at n v)) w
      goes_to lost (w, leads, st) = (
        goes n (restarts (w.replica n)) [] (w.outgoing n) w,
        leads_to _ _ _ (left_on lost (Crashes n) xs)
            (leads_go_on hash_of (left (before (Crashes n) lost) xs) w (goes n (restarts (w.replica n)) [] (w.outgoing n) w) (restarted n) leads
            (happens_in w st.same) (length-append w.messages [])),
        record {
          same = none_sent n (restarts (w.replica n)) (w.outgoing n) w ∙ st.same ∙ sym st_one.same
              ∙ sym (none_sent n (restarts (one.replica n)) (one.outgoing n) one);
          own = λ m. own m (m == n) refl;
        },
      )
        where
          u : World
          u = goes n (restarts (w.replica n)) [] (w.outgoing n) w

          gone : cond (n == n) true (lost n) ≡ true
          gone = ap (λ b. cond b true (lost n)) (itself n)

          own : (m : ℕ) (b : Bool) → (m == n) ≡ b → own_at m u ≡ cond (lost m) (cond b (own_at n v) (h.saved m)) (own_at m v)
          own m true eq =
              ap (λ k. own_at k u) (eqb-true m n eq)
              ∙ restarted_there w (saved_there (before (Crashes n) lost) w gone st)
              ∙ sym now_here
              ∙ both (lost m) (own_at n v) (own_at m v) (ap (λ k. own_at k v) (sym (eqb-true m n eq)))
          own m false eq =
              others w m eq
              ∙ st.own m
              ∙ ap (λ b. cond (cond b true (lost m)) (h.saved m) (own_at m h.now)) eq
              ∙ ap (λ o. cond (lost m) (h.saved m) o) (sym (now_there m eq))

  -- ---- whatever occurs

  next_unsaved : (xs : List Occurrence) (s t : System) (e : Event) (answer : Answer) (sent : ℕ) → Holds xs s
      → Occurs hash_of s (Passing (record { event = e; answer = answer; sent = sent })) t
      → Holds (xs ++ Passing (record { event = e; answer = answer; sent = sent }) ∷ []) t
  next_unsaved xs s t (Node name) answer sent h occurs = next_node xs s t name answer sent h occurs
  next_unsaved xs s t (At name c) answer sent h occurs =
      next_passing xs s t (record { event = At name c; answer = answer; sent = sent }) tt refl h occurs
  next_unsaved xs s t (Deliver number name) answer sent h occurs =
      next_passing xs s t (record { event = Deliver number name; answer = answer; sent = sent }) tt refl h occurs

  next_one : (xs : List Occurrence) (s t : System) (x : Occurrence) → Holds xs s → Occurs hash_of s x t → Holds (xs ++ x ∷ []) t
  next_one xs s t (Saving x) h occurs = next_saving xs s t x h occurs
  next_one xs s t (Passing x) h occurs = next_unsaved xs s t x.event x.answer x.sent h occurs
  next_one xs s t (Saves n) h occurs = next_saves xs s t n h occurs
  next_one xs s t (Crashes n) h occurs = next_crashes xs s t n h occurs

  further : (front xs : List Occurrence) (s t : System) → Holds front s → Goes hash_of s xs t → Holds (front ++ xs) t
  further front [] s t h is = subst (λ f. Holds f t) (sym (append-nil front)) (subst (Holds front) (sym is) h)
  further front (x ∷ xs) s t h (u, occurs, rest) =
      subst (λ f. Holds f t) (append_assoc front (x ∷ []) xs) (further (front ++ x ∷ []) xs u t (next_one front s u x h occurs) rest)

  at_first : Holds [] started
  at_first = record {
    now = nothing;
    saved = λ n. own_at n nothing;
    is_world = record { nodes = refl; replica = λ n. refl; mails_are = refl };
    is_saved = λ n. refl;
    worlds = λ lost. (nothing, refl, record { same = refl; own = λ n. both (lost n) (own_at n nothing) (own_at n nothing) refl });
  }

pub take_back : CrashesTakeBack
take_back hash_of xs s goes_so =
    let h : Holds hash_of xs s = further hash_of [] xs started s (at_first hash_of) goes_so in
    let x = h.worlds (λ n. false) in (
      x.0,
      x.1,
      record {
        nodes = ap (λ (c : Common). c.nodes) x.2.same ∙ h.is_world.nodes;
        replica = λ n. ap (λ (o : Own). o.replica) (x.2.own n) ∙ h.is_world.replica n;
        messages = ap (λ (c : Common). map (λ (m : Message). m.mail) c.messages) x.2.same ∙ h.is_world.mails_are;
      },
    )
