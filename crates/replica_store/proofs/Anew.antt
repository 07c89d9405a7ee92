-- A replica that is told anew.
use Rattle.std.proofs.Common.{◌≡◌, ◌⊎◌, inl, inr, ℕ, List, [], ◌∷◌, refl, sym, ap, subst, ◌∙◌, arith, Contains}
use Rattle.op_model.specs.Meaning.{MapState}
use Rattle.op_model.proofs.Members.{at_head, in_tail, head_or_tail, nothing_in, at_same}
use Rattle.sync_model.specs.Closing.{IsBelow}
use Rattle.replica_model.proofs.Growing.{below_itself}
use Rattle.causal_join.specs.OrMap.{OrMapValue, or_map_state}
use Rattle.wire_form.specs.Message.{MessageValue, Spells, Delta}
use Rattle.durable_log.specs.Log.{strings, IsReady, IsBetween, IsReplaced}
use Rattle.sqlite.specs.State.{State, HasCleanDisk, Survives}
use Rattle.replica_store.proofs.Surviving.{kept_now}
use Rattle.sqlite_trees.specs.Tree.{Trees}
use Rattle.replica_model.specs.Replica.{Replica, restarts}
use Rattle.replica_store.specs.Entry.{Entry, Named, Opened, Changed, CHANGED, SaysDelta}
use Rattle.replica_store.specs.Kept.{Keeps, IsKept, KeepsAlways, TellAll}
use Rattle.replica_store.specs.Rebuilt.{Says, AreBelow, IsRebuilt}
use Rattle.replica_store.proofs.Rebuilt.{rebuilt_delta, rebuilt_number, rebuilt_name, join_above}

module _ (xs ys : List (List ℕ)) (r : Replica) (a b c : List ℕ) (is : IsRebuilt xs r) (told : TellAll r a b c) where
  -- with the three beside the others
  all : IsRebuilt (a ∷ b ∷ c ∷ xs) r
  all =
      let one : IsRebuilt (c ∷ xs) r = subst (λ live. IsRebuilt (c ∷ xs) (record r { live = live })) (join_above r.live r.live (below_itself r.live))
      (rebuilt_delta c xs r r.live told.changed is) in
      let two : IsRebuilt (b ∷ c ∷ xs) r = rebuilt_number b (c ∷ xs) r r.opened told.opened (omega arith) one in
      rebuilt_name a (b ∷ c ∷ xs) r told.named two

  module _ (known : (string : List ℕ) → Contains ys string → Contains xs string ⊎ Contains (a ∷ b ∷ c ∷ []) string) where
    among : (string : List ℕ) → Contains ys string → Contains (a ∷ b ∷ c ∷ xs) string
    among string there = elim (known string there) [
      | inl was ↦ in_tail a (b ∷ c ∷ xs) string (in_tail b (c ∷ xs) string (in_tail c xs string was))
      | inr new ↦ elim (head_or_tail a (b ∷ c ∷ []) string new) [
        | inl e ↦ at_same (a ∷ b ∷ c ∷ xs) a string e (at_head a (b ∷ c ∷ xs))
        | inr more ↦ elim (head_or_tail b (c ∷ []) string more) [
          | inl e ↦ in_tail a (b ∷ c ∷ xs) string (at_same (b ∷ c ∷ xs) b string e (at_head b (c ∷ xs)))
          | inr last ↦ elim (head_or_tail c [] string last) [
            | inl e ↦ in_tail a (b ∷ c ∷ xs) string (in_tail b (c ∷ xs) string (at_same (c ∷ xs) c string e (at_head c xs)))
            | inr none ↦ nothing_in string none
          ]
        ]
      ]
    ]

    says : (e : Entry) → Says ys e → Says (a ∷ b ∷ c ∷ xs) e
    says e it = (it.0, among it.0 it.1, it.2)

    -- where all that were there are
    rebuilt_older : ((string : List ℕ) → Contains xs string → Contains ys string) → IsRebuilt ys r
    rebuilt_older older = record {
      named = (is.named.0, older is.named.0 is.named.1, is.named.2);
      alone = λ name it. all.alone name (says (Named name) it);
      above = λ d it. all.above d (says (Changed d) it);
      least = λ p below. is.least p (λ d it. below d (it.0, older it.0 it.1, it.2));
      numbers = λ n it. all.numbers n (says (Opened n) it);
      newest = elim is.newest [ inl none ↦ inl none | inr it ↦ inr (it.0, older it.0 it.1, it.2) ];
      group = is.group;
      sessions = is.sessions;
      kept = is.kept;
    }

    -- where the three are
    rebuilt_newer : ((string : List ℕ) → Contains (a ∷ b ∷ c ∷ []) string → Contains ys string) → IsRebuilt ys r
    rebuilt_newer newer = record {
      named = (a, newer a (at_head a (b ∷ c ∷ [])), told.named);
      alone = λ name it. all.alone name (says (Named name) it);
      above = λ d it. all.above d (says (Changed d) it);
      least = λ p below. below r.live (c, newer c (in_tail a (b ∷ c ∷ []) c (in_tail b (c ∷ []) c (at_head c []))), told.changed);
      numbers = λ n it. all.numbers n (says (Opened n) it);
      newest = inr (b, newer b (in_tail a (b ∷ c ∷ []) b (at_head b (c ∷ []))), told.opened);
      group = is.group;
      sessions = is.sessions;
      kept = is.kept;
    }

pub between_keeps : (old new : Trees) (r : Replica) (a b c : List ℕ) → Keeps old r → TellAll r a b c → IsBetween old new (a ∷ b ∷ c ∷ []) → Keeps new r
between_keeps old new r a b c keeps told between =
    let same : TellAll (restarts r) a b c = record { named = told.named; opened = told.opened; changed = told.changed } in
    elim between.whole [
      | inl older ↦ rebuilt_older (strings old) (strings new) (restarts r) a b c keeps same between.known older
      | inr newer ↦ rebuilt_newer (strings old) (strings new) (restarts r) a b c keeps same between.known newer
    ]

pub replaced_keeps : (old new : Trees) (r : Replica) (a b c : List ℕ) → Keeps old r → TellAll r a b c → IsReplaced old new (a ∷ b ∷ c ∷ []) → Keeps new r
replaced_keeps old new r a b c keeps told is = between_keeps old new r a b c keeps told (record { known = is.known; whole = inr is.whole })

-- nothing was written yet
pub unkept_always : (s : State) (r : Replica) → IsReady s → Keeps s.now.trees r → KeepsAlways s r
unkept_always s r ready keeps db may = subst (λ d. Keeps d r) (sym (ready.crash db may)) keeps

module _ (old new : State) (r : Replica) (a b c : List ℕ) (keeps : Keeps old.now.trees r) (told : TellAll r a b c) where
  pub between_always : IsReady old → Survives old new (λ db. IsBetween old.now.trees db (a ∷ b ∷ c ∷ [])) → HasCleanDisk new → KeepsAlways new r
  between_always ready survives clean db may = elim (survives.crash clean db may) [
    | inl was ↦ unkept_always old r ready keeps db was
    | inr between ↦ between_keeps old.now.trees db r a b c keeps told between
  ]

  pub replaced_kept : IsReady new → IsReplaced old.now.trees new.now.trees (a ∷ b ∷ c ∷ []) → IsKept new r
  replaced_kept ready is = kept_now new r ready (replaced_keeps old.now.trees new.now.trees r a b c keeps told is)
