-- What is held is what crashes left.
use Rattle.std.proofs.Common.{◌≡◌, ℕ, Bool, true, false, cond, ◌||◌, ◌==◌, List, [], ◌∷◌, ◌++◌, map, refl, sym, ap, ◌∙◌, append-nil}
use Rattle.std.specs.Prelude.{not, filter, ◌&&◌}
use Rattle.std.specs.List.{fold}
use Rattle.std.proofs.lemmas.List.{append_assoc}
use Rattle.replica_model.specs.Crashing.{Occurrence, Saving, Passing, Saves, Crashes, is_lost, may_be_lost, unless_lost, restarted, left}
use Rattle.replica_model.specs.Happened.{Happened}
use Rattle.replica_model.specs.Laws.{replica_of}
use Rattle.replica_model.specs.World.{Event, Node, At, Deliver}
use Rattle.replica_world.specs.Held.{Held, HeldSurvives, happened_in, is_act, save_at, is_left, after, held_after}

-- whether it goes where these replicas crash
may_go : (ℕ → Bool) → Event → Bool
may_go lost (Node n) = false
may_go lost (At n c) = lost n
may_go lost (Deliver number n) = lost n

stays : (ℕ → Bool) → Held → Bool
stays lost h = h.is_saved || not (may_go lost h.happened.event)

-- ---- filters by what they leave of what happened

same_kept : (b c : Bool) → b ≡ c → (x y : Held) → x.happened ≡ y.happened → (xs ys : List Held) → happened_in xs ≡ happened_in ys
    → happened_in (cond b (x ∷ xs) xs) ≡ happened_in (cond c (y ∷ ys) ys)
same_kept b c is x y e xs ys es = by b ∙ ap (λ d. happened_in (cond d (y ∷ ys) ys)) is
  where
    by : (d : Bool) → happened_in (cond d (x ∷ xs) xs) ≡ happened_in (cond d (y ∷ ys) ys)
    by true = λ i. e i ∷ es i
    by false = es

filter_on : (p : Held → Bool) (xs ys : List Held) → happened_in (filter p (xs ++ ys)) ≡ happened_in (filter p xs) ++ happened_in (filter p ys)
filter_on p [] ys = refl
filter_on p (x ∷ xs) ys = by (filter_on p xs ys) (p x)
  where
    by : happened_in (filter p (xs ++ ys)) ≡ happened_in (filter p xs) ++ happened_in (filter p ys) → (b : Bool)
        → happened_in (cond b (x ∷ filter p (xs ++ ys)) (filter p (xs ++ ys))) ≡ happened_in (cond b (x ∷ filter p xs) (filter p xs)) ++ happened_in (filter p ys)
    by rest true = ap (λ es. x.happened ∷ es) rest
    by rest false = rest

-- ---- a replica is saved

saved_bool : (s b l : Bool) → ((s || b) || not l) ≡ (s || not (cond b false l))
saved_bool true b l = refl
saved_bool false true l = refl
saved_bool false false l = refl

always : (s b : Bool) → ((s || b) || true) ≡ (s || true)
always true b = refl
always false true = refl
always false false = refl

saved_one : (lost : ℕ → Bool) (n : ℕ) (s : Bool) (e : Event) → ((s || (replica_of e == n)) || not (may_go lost e))
    ≡ (s || not (may_go (λ m. cond (m == n) false (lost m)) e))
unfolding may_go
saved_one lost n s (Node k) = always s (k == n)
saved_one lost n s (At k c) = saved_bool s (k == n) (lost k)
saved_one lost n s (Deliver number k) = saved_bool s (k == n) (lost k)

when_saved : (lost : ℕ → Bool) (n : ℕ) (hs : List Held) → happened_in (filter (stays lost) (map (save_at n) hs))
    ≡ happened_in (filter (stays (λ m. cond (m == n) false (lost m))) hs)
unfolding stays
when_saved lost n [] = refl
when_saved lost n (h ∷ hs) =
    same_kept (stays lost (save_at n h)) (stays (λ m. cond (m == n) false (lost m)) h) (saved_one lost n h.is_saved h.happened.event) (save_at n h) h refl
    (filter (stays lost) (map (save_at n) hs)) (filter (stays (λ m. cond (m == n) false (lost m))) hs) (when_saved lost n hs)

-- ---- a replica crashes

crashed_bool : (s b l : Bool) → (s || not (cond b true l)) ≡ ((s || not b) && (s || not l))
crashed_bool true b l = refl
crashed_bool false true l = refl
crashed_bool false false l = refl

twice : (s : Bool) → (s || true) ≡ ((s || true) && (s || true))
twice true = refl
twice false = refl

crashed_one : (lost : ℕ → Bool) (n : ℕ) (s : Bool) (e : Event) → (s || not (may_go (λ m. cond (m == n) true (lost m)) e))
    ≡ ((s || not (is_act n e)) && (s || not (may_go lost e)))
unfolding may_go
crashed_one lost n s (Node k) = twice s
crashed_one lost n s (At k c) = crashed_bool s (k == n) (lost k)
crashed_one lost n s (Deliver number k) = crashed_bool s (k == n) (lost k)

when_crashed : (lost : ℕ → Bool) (n : ℕ) (hs : List Held) → happened_in (filter (stays lost) (filter (is_left n) hs))
    ≡ happened_in (filter (stays (λ m. cond (m == n) true (lost m))) hs)
unfolding stays
when_crashed lost n [] = refl
when_crashed lost n (h ∷ hs) = by (when_crashed lost n hs) (is_left n h) (sym (crashed_one lost n h.is_saved h.happened.event))
  where
    by : happened_in (filter (stays lost) (filter (is_left n) hs)) ≡ happened_in (filter (stays (λ m. cond (m == n) true (lost m))) hs) → (b : Bool)
        → (b && stays lost h) ≡ stays (λ m. cond (m == n) true (lost m)) h
        → happened_in (filter (stays lost) (cond b (h ∷ filter (is_left n) hs) (filter (is_left n) hs)))
        ≡ happened_in (filter (stays (λ m. cond (m == n) true (lost m))) (h ∷ hs))
    by rest true is = same_kept (stays lost h) (stays (λ m. cond (m == n) true (lost m)) h) is h h refl (filter (stays lost) (filter (is_left n) hs))
        (filter (stays (λ m. cond (m == n) true (lost m))) hs) rest
    by rest false is = rest
        ∙ ap (λ b. happened_in (cond b (h ∷ filter (stays (λ m. cond (m == n) true (lost m))) hs) (filter (stays (λ m. cond (m == n) true (lost m))) hs))) is

-- ---- whatever occurs

unless_true : (b : Bool) → b ≡ (b && true)
unless_true true = refl
unless_true false = refl

may_go_as : (lost : ℕ → Bool) (e : Event) → may_go lost e ≡ (lost (replica_of e) && may_be_lost e)
unfolding may_go
may_go_as lost (Node n) = by (lost n)
  where
    by : (b : Bool) → false ≡ (b && false)
    by true = refl
    by false = refl
may_go_as lost (At n c) = unless_true (lost n)
may_go_as lost (Deliver number n) = unless_true (lost n)

unless : (lost : ℕ → Bool) (x : Happened) → happened_in (filter (stays lost) (record { happened = x; is_saved = false } ∷ []))
    ≡ unless_lost (lost (replica_of x.event)) x
unfolding stays
unless lost x = by (may_go lost x.event) ∙ ap (λ b. cond b [] (x ∷ [])) (may_go_as lost x.event)
  where
    by : (b : Bool) → happened_in (cond (not b) (record { happened = x; is_saved = false } ∷ []) []) ≡ cond b [] (x ∷ [])
    by true = refl
    by false = refl

step : (lost : ℕ → Bool) (hs : List Held) (x : Occurrence) (xs : List Occurrence)
    → happened_in (filter (stays (λ m. is_lost lost m xs)) (after hs x)) ++ left lost xs ≡ happened_in (filter (stays (λ m. is_lost lost m (x ∷ xs))) hs)
    ++ left lost (x ∷ xs)
unfolding stays
step lost hs (Saving x) xs =
    ap (λ es. es ++ left lost xs) (filter_on (stays (λ m. is_lost lost m xs)) (map (save_at (replica_of x.event)) hs) (record { happened = x; is_saved = true } ∷ [])
    ∙ ap (λ es. es ++ x ∷ []) (when_saved (λ m. is_lost lost m xs) (replica_of x.event) hs))
    ∙ append_assoc (happened_in (filter (stays (λ m. is_lost lost m (Saving x ∷ xs))) hs)) (x ∷ []) (left lost xs)
step lost hs (Passing x) xs =
    ap (λ es. es ++ left lost xs) (filter_on (stays (λ m. is_lost lost m xs)) hs (record { happened = x; is_saved = false } ∷ [])
    ∙ ap (λ es. happened_in (filter (stays (λ m. is_lost lost m xs)) hs) ++ es) (unless (λ m. is_lost lost m xs) x))
    ∙ append_assoc (happened_in (filter (stays (λ m. is_lost lost m xs)) hs)) (unless_lost (is_lost lost (replica_of x.event) xs) x) (left lost xs)
step lost hs (Saves n) xs = ap (λ es. es ++ left lost xs) (when_saved (λ m. is_lost lost m xs) n hs)
step lost hs (Crashes n) xs =
    ap (λ es. es ++ left lost xs) (filter_on (stays (λ m. is_lost lost m xs)) (filter (is_left n) hs) (record { happened = restarted n; is_saved = true } ∷ [])
    ∙ ap (λ es. es ++ restarted n ∷ []) (when_crashed (λ m. is_lost lost m xs) n hs))
    ∙ append_assoc (happened_in (filter (stays (λ m. is_lost lost m (Crashes n ∷ xs))) hs)) (restarted n ∷ []) (left lost xs)

left_of : (lost : ℕ → Bool) (hs : List Held) (xs : List Occurrence)
    → happened_in (filter (stays lost) (fold after hs xs)) ≡ happened_in (filter (stays (λ m. is_lost lost m xs)) hs) ++ left lost xs
left_of lost hs [] = sym (append-nil (happened_in (filter (stays lost) hs)))
left_of lost hs (x ∷ xs) = left_of lost (after hs x) xs ∙ step lost hs x xs

-- where none crashes, all stay
none_goes : (s : Bool) (e : Event) → (s || not (may_go (λ m. false) e)) ≡ true
unfolding may_go
none_goes true e = refl
none_goes false (Node n) = refl
none_goes false (At n c) = refl
none_goes false (Deliver number n) = refl

all_stay : (hs : List Held) → happened_in (filter (stays (λ m. false)) hs) ≡ happened_in hs
unfolding stays
all_stay [] = refl
all_stay (h ∷ hs) = same_kept (stays (λ m. false) h) true (none_goes h.is_saved h.happened.event) h h refl (filter (stays (λ m. false)) hs) hs (all_stay hs)

pub held_survives : HeldSurvives
held_survives xs = sym (all_stay (held_after xs)) ∙ left_of (λ m. false) [] xs
