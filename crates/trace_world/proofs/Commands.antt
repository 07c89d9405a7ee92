-- What commands come to at a replica, with keys, fields and values: over plain variables.
use Rattle.std.proofs.Common.{◌≡◌, ◌⊎◌, inl, inr, ℕ, Bool, ◌&&◌, true, false, List, [], length, refl, sym, ap, ◌∙◌, subst, Result, Ok, Err, IfOk, Option}
use Rattle.std.specs.Prelude.{nat_le}
use Rattle.std.specs.declared.vec.Vec.{Vec}
use Rattle.dots.specs.Bytes.{MAX_LENGTH}
use Rattle.dots.specs.declared.refusal.Refusal.{Refusal}
use Rattle.dots.specs.declared.refusal.Refusal.TheVariants.{OutOfMemory, TooLong, UnknownReplica}
use Rattle.hash_path.specs.Fnv1a.{fnv1a}
use Rattle.op_model.specs.Meaning.{MapState}
use Rattle.op_model.specs.Place.{Place}
use Rattle.dots.specs.Dot.{DotValue}
use Rattle.replica_model.specs.Replica.{Replica}
use Rattle.replica_model.specs.World.{World, is_node, nothing, Runs}
use Rattle.replica_world.specs.Held.{Held, events_of}
use Rattle.trace_world.specs.Does.{Does, In, TellsText, IsThere, IsAbsent}
use Rattle.replica_model.specs.Step as step
use Rattle.trace_world.specs.Outcome.{CommandOutcome, Refused, Done, IsCall, at_replica, with_bytes}
use Rattle.trace_world.specs.Texts.{is_short}

-- a command at a replica that is not there
pub does_absent : (P : World → CommandOutcome → Type 0) (name : ℕ) (old : List Held) → IsAbsent old name
    → Does {A = ℕ} (In old (λ w. at_replica w name (P w))) old old (Err UnknownReplica)
does_absent P name old absent = inr ((λ w runs. inl (absent w runs, refl)), refl)

-- with bytes that are too long
pub does_long : (P : World → CommandOutcome → Type 0) (bytes : List ℕ) (old : List Held) (refusal : Refusal)
    → (refusal ≡ OutOfMemory) ⊎ ((refusal ≡ TooLong) × (nat_le (length bytes) MAX_LENGTH ≡ false))
    → Does {A = ℕ} (In old (λ w. with_bytes bytes (P w))) old old (Err refusal)
does_long P bytes old refusal (inl memory) = inl memory
does_long P bytes old refusal (inr (is, long)) = inr ((λ w runs. inl (long, ap Refused is)), refl)

-- and a read with such
pub tells_long : (P : CommandOutcome → Type 0) (bytes : List ℕ) (refusal : Refusal)
    → (refusal ≡ OutOfMemory) ⊎ ((refusal ≡ TooLong) × (nat_le (length bytes) MAX_LENGTH ≡ false)) → TellsText {A = ℕ} (with_bytes bytes P) (Err refusal)
tells_long P bytes refusal (inl memory) = inl memory
tells_long P bytes refusal (inr (is, long)) = inr (inl (long, ap Refused is))

-- what a replica holds, kept by a store
pub store_holds : {T : Type 0} (at : T → Place → DotValue → Option (List ℕ)) (name : ℕ) (events : List Held) (meant : Replica) (r : Result T Refusal)
    → ((w : World) → Runs fnv1a nothing (events_of events) w → (is_node w name ≡ true) × (meant ≡ w.replica name))
    → IfOk r (λ store. at store ≡ meant.live.at)
    → IfOk r (λ store. (w : World) → Runs fnv1a nothing (events_of events) w → (is_node w name ≡ true)
    × ((place : Place) (dot : DotValue) → at store place dot ≡ (w.replica name).live.at place dot))
store_holds at name events meant (Ok store) is holds = λ w runs. (
  (is w runs).0,
  λ place dot. ap (λ (f : Place → DotValue → Option (List ℕ)). f place dot) holds ∙ ap (λ (s : Replica). s.live.at place dot) (is w runs).1,
)
store_holds at name events meant (Err refusal) is holds = tt

module _ {A : Type 0} where
  -- what follows from each way in which a command can come out
  does_weaker : (P Q : CommandOutcome → Type 0) (old new : List Held) (r : Result (Vec ℕ A) Refusal) → ((o : CommandOutcome) → P o → Q o) → Does P old new r
      → Does Q old new r
  does_weaker P Q old new (Ok text) more (events, comes, is) = (events, more (Done text.items events) comes, is)
  does_weaker P Q old new (Err refusal) more (inl memory) = inl memory
  does_weaker P Q old new (Err refusal) more (inr (comes, same)) = inr (more (Refused refusal) comes, same)

  -- a command at a replica that is there
  pub does_at : (P : World → CommandOutcome → Type 0) (name : ℕ) (old new : List Held) (r : Result (Vec ℕ A) Refusal) → IsThere old name
      → Does (In old P) old new r → Does (In old (λ w. at_replica w name (P w))) old new r
  does_at P name old new r there =
      does_weaker (In old P) (In old (λ w. at_replica w name (P w))) old new r (λ o comes w runs. inr (there w runs, comes w runs))

  -- with bytes that are not too long
  pub does_with : (P : World → CommandOutcome → Type 0) (bytes : List ℕ) (old new : List Held) (r : Result (Vec ℕ A) Refusal)
      → nat_le (length bytes) MAX_LENGTH ≡ true
      → Does (In old P) old new r → Does (In old (λ w. with_bytes bytes (P w))) old new r
  does_with P bytes old new r short =
      does_weaker (In old P) (In old (λ w. with_bytes bytes (P w))) old new r (λ o comes w runs. inr (short, comes w runs))

  -- a read of a replica, as a command
  pub does_read : (P : MapState → CommandOutcome → Type 0) (name : ℕ) (events : List Held) (meant : Replica) (r : Result (Vec ℕ A) Refusal)
      → ((w : World) → Runs fnv1a nothing (events_of events) w → (is_node w name ≡ true) × (meant ≡ w.replica name))
      → TellsText (P meant.live) r → Does (In events (λ w. at_replica w name (P (w.replica name).live))) events events r
  does_read P name events meant (Ok text) is tells =
      ([], (λ w runs. inr ((is w runs).0, subst (λ (s : Replica). P s.live (Done text.items [])) (is w runs).1 tells)), refl)
  does_read P name events meant (Err refusal) is (inl memory) = inl memory
  does_read P name events meant (Err refusal) is (inr tells) =
      inr ((λ w runs. inr ((is w runs).0, subst (λ (s : Replica). P s.live (Refused refusal)) (is w runs).1 tells)), refl)

  -- reads with bytes
  pub tells_with : (P : CommandOutcome → Type 0) (bytes : List ℕ) (r : Result (Vec ℕ A) Refusal) → nat_le (length bytes) MAX_LENGTH ≡ true → TellsText P r
      → TellsText (with_bytes bytes P) r
  tells_with P bytes (Ok text) short tells = inr (short, tells)
  tells_with P bytes (Err refusal) short (inl memory) = inl memory
  tells_with P bytes (Err refusal) short (inr tells) = inr (inr (short, tells))

-- A call of a replica, and its texts.

bool_is : (b : Bool) → (b ≡ true) ⊎ (b ≡ false)
bool_is true = inl refl
bool_is false = inr refl

apart : true ≡ false → ⊥
apart e = absurd cc

-- a call happens, or is refused, at a replica that is there, or that is not
at_or_absent : (w : World) (name : ℕ) (c : step.Call) (P : CommandOutcome → Type 0) → ((o : CommandOutcome) → IsCall fnv1a w name c o → P o)
    → (o : CommandOutcome) → IsCall fnv1a w name c o → at_replica w name P o
at_or_absent w name c P more o is = by (bool_is (is_node w name)) is
  where
    by : (is_node w name ≡ true) ⊎ (is_node w name ≡ false) → IsCall fnv1a w name c o → at_replica w name P o
    by (inl there) is = inr (there, more o is)
    by (inr absent) (inl (answer, v, happens, e)) = absurd (apart (sym happens.0 ∙ absent))
    by (inr absent) (inr (refusal, inl (missing, named), e)) = inl (absent, e ∙ ap Refused named)
    by (inr absent) (inr (refusal, inr (there, rest), e)) = absurd (apart (sym there ∙ absent))

-- three texts of which one is too long
long_of_three : (key field value : List ℕ) (P : CommandOutcome → Type 0) → (is_short key && (is_short field && is_short value)) ≡ false
    → with_bytes key (with_bytes field (with_bytes value P)) (Refused TooLong)
long_of_three key field value P long = by (bool_is (is_short key)) (bool_is (is_short field)) (bool_is (is_short value))
  where
    by : (is_short key ≡ true) ⊎ (is_short key ≡ false) → (is_short field ≡ true) ⊎ (is_short field ≡ false) → (is_short value ≡ true)
        ⊎ (is_short value ≡ false)
        → with_bytes key (with_bytes field (with_bytes value P)) (Refused TooLong)
    by (inr k) f v = inl (k, refl)
    by (inl k) (inr f) v = inr (k, inl (f, refl))
    by (inl k) (inl f) (inr v) = inr (k, inr (f, inl (v, refl)))
    by (inl k) (inl f) (inl v) = absurd (apart (sym (ap (λ b. b && (is_short field && is_short value)) k ∙ (ap (λ b. b && is_short value) f ∙ v)) ∙ long))

module _ (name : ℕ) (key field value : List ℕ) (c : step.Call) where
  -- a call of a replica with three texts
  abbrev pub with_three : World → CommandOutcome → Type 0
  with_three w = at_replica w name (with_bytes key (with_bytes field (with_bytes value (IsCall fnv1a w name c))))

  pub does_call : {A : Type 0} (old new : List Held) (r : Result (Vec ℕ A) Refusal) → is_short key ≡ true → is_short field ≡ true → is_short value ≡ true
      → Does (In old (λ w. IsCall fnv1a w name c)) old new r → Does (In old with_three) old new r
  does_call old new r k f v =
      does_weaker (In old (λ w. IsCall fnv1a w name c)) (In old with_three) old new r
      (λ o comes w runs. at_or_absent w name c (with_bytes key (with_bytes field (with_bytes value (IsCall fnv1a w name c))))
      (λ o is. inr (k, inr (f, inr (v, is)))) o (comes w runs))

  -- or one that is not made, as a text is too long or the replica is not there
  pub does_no_call : (old : List Held) (told refusal : Refusal)
      → (told ≡ OutOfMemory) ⊎ ((told ≡ TooLong) × ((is_short key && (is_short field && is_short value)) ≡ false))
      → ((refusal ≡ told) × IsThere old name) ⊎ ((refusal ≡ UnknownReplica) × IsAbsent old name) → Does {A = ℕ} (In old with_three) old old (Err refusal)
  does_no_call old told refusal (inl memory) (inl (same, there)) = inl (same ∙ memory)
  does_no_call old told refusal (inr (is, long)) (inl (same, there)) =
      inr (
        (λ w runs. inr (
          there w runs,
          subst (λ r. with_bytes key (with_bytes field (with_bytes value (IsCall fnv1a w name c))) (Refused r)) (sym (same ∙ is))
              (long_of_three key field value (IsCall fnv1a w name c) long),
        )),
        refl,
      )
  does_no_call old told refusal whatever (inr (is, absent)) = inr ((λ w runs. inl (absent w runs, ap Refused is)), refl)
