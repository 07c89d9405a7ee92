-- What the log keeps once it has a string more.
use Rattle.std.proofs.Common.{◌≡◌, inl, inr, ℕ, ◌≤◌, Bool, true, false, List, [], ◌∷◌}
use Rattle.std.proofs.Common.{Option, Some, None, IsSome, IsTrue, refl, sym, ap, subst, ◌∙◌, ◌||◌}
use Rattle.causal_context.specs.Context.{HasNone, has}
use Rattle.causal_join.specs.Causal.{state_of}
use Rattle.causal_join.specs.OrMap.{OrMapValue, or_map_at, or_map_state, path_of}
use Rattle.sqlite.specs.State.{State, HasCleanDisk, Survives}
use Rattle.sqlite_trees.specs.Tree.{Trees}
use Rattle.op_model.specs.Meaning.{MapState, greater}
use Rattle.op_model.specs.State.{IsInside, join, joined}
use Rattle.replica_model.proofs.States.{same_is}
use Rattle.sync_model.specs.Closing.{IsBelow}
use Rattle.wire_form.specs.Message.{MessageValue, Delta, Hello, Opening, Ask, Page, Gone, Spells}
use Rattle.durable_log.specs.Log.{strings, Gains, IsReady}
use Rattle.replica_model.specs.Mail.{Mail, mail_of}
use Rattle.replica_model.specs.Mail as mail
use Rattle.replica_model.specs.Replica.{Replica, restarts}
use Rattle.replica_store.specs.Entry.{CHANGED, SaysDelta}
use Rattle.replica_store.specs.Rebuilt.{IsRebuilt}
use Rattle.replica_model.specs.Delivery.{Joined, Done}
use Rattle.replica_store.specs.Kept.{Keeps, KeepsEither, GainsMessage, GainsDelta, GainsNumber}
use Rattle.replica_store.specs.Took.{TookAs, Joins, BringsNothing}
use Rattle.replica_model.specs.Step.{Answer, Flush, IsCall}
use Rattle.replica_store.specs.Behind.{IsBehind}
use Rattle.replica_store.proofs.Behind.{flush_sends}
use Rattle.replica_store.proofs.Rebuilt.{rebuilt_any, rebuilt_delta, rebuilt_number, join_above}
use Rattle.replica_store.proofs.Surviving.{was_clean, gained}

-- a message that means a delta is one
is_delta : Mail → Bool
is_delta (mail.Delta d) = true
is_delta _ = false

delta_in : MapState → Mail → MapState
delta_in other (mail.Delta d) = d
delta_in other _ = other

mail_delta : (m : MessageValue) (d : MapState) → mail_of m ≡ mail.Delta d → (pair : OrMapValue) × (m ≡ Delta pair) × (or_map_state pair ≡ d)
unfolding is_delta delta_in
mail_delta (Delta pair) d e = (pair, refl, ap (delta_in d) e)
mail_delta (Hello s c) d e = absurd (let f = ap is_delta e in cc)
mail_delta (Opening s c r) d e = absurd (let f = ap is_delta e in cc)
mail_delta (Ask s p) d e = absurd (let f = ap is_delta e in cc)
mail_delta (Page s p) d e = absurd (let f = ap is_delta e in cc)
mail_delta (Gone s) d e = absurd (let f = ap is_delta e in cc)

-- a delta that knows no dot changes nothing
nothing_by : (x : Option (List ℕ)) (own : Bool) → joined greater x own None false ≡ x
nothing_by None own = refl
nothing_by (Some v) own = refl

or_false : (b : Bool) → (b || false) ≡ b
or_false true = refl
or_false false = refl

stands_none : (o : Option (List ℕ)) (known : Bool) → known ≡ false → (IsSome o → IsTrue known) → o ≡ None
stands_none None known unknown inside = refl
stands_none (Some v) known unknown inside = absurd (let known = inside refl in cc (known, unknown))

pub nothing_brought : (pair : OrMapValue) → IsInside (state_of or_map_at pair) → HasNone pair.1 → BringsNothing (mail.Delta (or_map_state pair))
unfolding is_delta delta_in
nothing_brought pair inside none d e p =
    let is : or_map_state pair ≡ d = ap (delta_in d) e in
    subst (λ q. join greater p q ≡ p) is (same_is (join greater p (or_map_state pair)) p (record {
      at = λ place dot.
          (λ i. joined greater (p.at place dot) (p.has dot)
          (stands_none (or_map_at pair.0 (path_of place) dot) (has pair.1 dot) (none dot) (inside (path_of place) dot) i) (none dot i))
          ∙ nothing_by (p.at place dot) (p.has dot);
      has = λ dot. ap (λ b. p.has dot || b) (none dot) ∙ or_false (p.has dot);
    }))

module _ (old new : Trees) (r t : Replica) (kept : Keeps old r) where
  pub gains_delta : (m : MessageValue) (d : MapState) → mail_of m ≡ mail.Delta d → GainsMessage old new m
      → restarts t ≡ record (restarts r) { live = join greater r.live d } → Keeps new t
  gains_delta m d means gains is =
      let pair = mail_delta m d means in
      let says : SaysDelta (CHANGED ∷ gains.0) d = record {
        bytes = gains.0;
        pair = pair.0;
        spelled = subst (Spells gains.0) pair.1 gains.1;
        means = pair.2;
        is = refl;
      } in
      subst (IsRebuilt (strings new)) (sym is)
      (rebuilt_any ((CHANGED ∷ gains.0) ∷ strings old) (strings new) _ gains.2 (rebuilt_delta (CHANGED ∷ gains.0) (strings old) (restarts r) d says kept))

  -- all that is held now is a delta that leaves nothing of what was held before
  pub gains_whole : (m : MessageValue) → mail_of m ≡ mail.Delta t.live → GainsMessage old new m → IsBelow r.live t.live
      → restarts t ≡ record (restarts r) { live = t.live } → Keeps new t
  gains_whole m means gains below is = gains_delta m t.live means gains (is ∙ ap (λ l. record (restarts r) { live = l }) (sym (join_above r.live t.live below)))

  pub gains_number : (n : ℕ) → GainsNumber old new n → r.opened ≤ n → restarts t ≡ record (restarts r) { opened = n } → Keeps new t
  gains_number n gains after is =
      subst (IsRebuilt (strings new)) (sym is)
      (rebuilt_any (gains.0 ∷ strings old) (strings new) _ gains.2 (rebuilt_number gains.0 (strings old) (restarts r) n gains.1 after kept))

-- ---- a flush

module _ (kept mid new : Replica) (answer : Answer) (old : Trees) (behind : IsBehind kept mid) (is : Keeps old kept) where
  pub flushed_none : IsCall mid Flush new answer [] → Keeps old new
  flushed_none call = elim (flush_sends kept mid new answer [] behind call) [
    | inl none ↦ subst (IsRebuilt (strings old)) (sym none.1) is
    | inr some ↦ absurd (let e = some.0 in cc)
  ]

  pub flushed_some : (m : MessageValue) (db : Trees) → IsCall mid Flush new answer (mail_of m ∷ []) → GainsMessage old db m → Keeps db new
  flushed_some m db call gains = elim (flush_sends kept mid new answer (mail_of m ∷ []) behind call) [
    | inl none ↦ absurd (let e = none.0 in cc)
    | inr some ↦ gains_delta old db kept new is m mid.group (let e = some.0 in cc) gains some.1
  ]

-- what was taken in as a delta is kept at any moment, or what was before is; and so is what a synchronisation brought
module _ (before after : State) (old new : Replica) (m : MessageValue) where
  pub delta_or_not : (HasCleanDisk before → IsReady before) → TookAs old (mail_of m) Joined new
      → Survives before after (λ db. GainsMessage before.now.trees db m) → HasCleanDisk after → Keeps before.now.trees old
      → KeepsEither after old new
  delta_or_not ready took survives clean keeps =
      gained before after old new _ (ready (was_clean before after _ survives clean)) keeps survives
      (λ db gains. gains_delta before.now.trees db old new keeps m took.0 took.1 gains took.2) clean

  -- a delta that brought it
  joined_is : (other : Mail) → TookAs old other Done new → (is : Joins old (mail_of m) new)
      → restarts new ≡ record (restarts old) { live = join greater old.live is.0 }
  joined_is other took is = took.0 ∙ ap (λ l. record (restarts old) { live = l }) is.2

  pub ended_kept : (other : Mail) → TookAs old other Done new → Joins old (mail_of m) new → (db : Trees) → Keeps before.now.trees old
      → GainsMessage before.now.trees db m → Keeps db new
  ended_kept other took is db keeps gains = gains_delta before.now.trees db old new keeps m is.0 is.1 gains (joined_is other took is)

  -- or one that brought nothing
  pub stays_kept : (other : Mail) → TookAs old other Done new → Joins old (mail_of m) new → BringsNothing (mail_of m) → restarts new ≡ restarts old
  stays_kept other took is nothing = joined_is other took is ∙ ap (λ l. record (restarts old) { live = l }) (nothing is.0 is.1 old.live)

  pub ended_or_not : (other : Mail) → (HasCleanDisk before → IsReady before) → TookAs old other Done new → Joins old (mail_of m) new
      → Survives before after (λ db. GainsMessage before.now.trees db m) → HasCleanDisk after → Keeps before.now.trees old
      → KeepsEither after old new
  ended_or_not other ready took is survives clean keeps =
      gained before after old new _ (ready (was_clean before after _ survives clean)) keeps survives
      (λ db gains. ended_kept other took is db keeps gains) clean

-- or all
module _ (before after : State) (old new : Replica) (other : Mail) (took : TookAs old other Done new) where
  pub all_kept : (db : Trees) → Keeps before.now.trees old → GainsDelta before.now.trees db new.live → Keeps db new
  all_kept db keeps gains = gains_whole before.now.trees db old new keeps gains.0 gains.1 gains.2 took.1 took.0

  pub all_or_not : (HasCleanDisk before → IsReady before) → Survives before after (λ db. GainsDelta before.now.trees db new.live)
      → HasCleanDisk after → Keeps before.now.trees old → KeepsEither after old new
  all_or_not ready survives clean keeps =
      gained before after old new _ (ready (was_clean before after _ survives clean)) keeps survives (λ db gains. all_kept db keeps gains) clean
