-- What a crash leaves, by what it leaves of the log.
use Rattle.std.proofs.Common.{◌≡◌, ◌⊎◌, inl, inr, sym, subst, arith, Ok, Err, Result, OnOk}
use Rattle.sqlite.specs.State.{State, HasCleanDisk, Survives}
use Rattle.sqlite_trees.specs.Tree.{Trees}
use Rattle.durable_log.specs.Log.{IsReady}
use Rattle.replica_model.specs.Replica.{Replica}
use Rattle.replica_store.specs.Kept.{Keeps, IsKept, KeepsEither}

pub was_clean : (old new : State) (P : Trees → Type 0) → Survives old new P → HasCleanDisk new → HasCleanDisk old
was_clean old new P survives clean = omega (arith, survives.clean)

-- nothing was written yet
pub unkept : (s : State) (r t : Replica) → IsReady s → Keeps s.now.trees r → KeepsEither s r t
unkept s r t ready kept db may = inl (subst (λ d. Keeps d r) (sym (ready.crash db may)) kept)

-- a string more, or not
pub gained : (old new : State) (r t : Replica) (P : Trees → Type 0) → IsReady old → Keeps old.now.trees r → Survives old new P
    → ((db : Trees) → P db → Keeps db t) → HasCleanDisk new → KeepsEither new r t
gained old new r t P ready kept survives gains clean db may = elim (survives.crash clean db may) [
  | inl was ↦ unkept old r t ready kept db was
  | inr more ↦ inr (gains db more)
]

pub kept_now : (s : State) (r : Replica) → IsReady s → Keeps s.now.trees r → IsKept s r
kept_now s r ready kept = record { now = kept; crash = λ db may. subst (λ d. Keeps d r) (sym (ready.crash db may)) kept }

-- what is kept for certain is kept in either case
pub either_kept : (s : State) (r t : Replica) → IsKept s t → KeepsEither s r t
either_kept s r t kept db may = inr (kept.crash db may)

pub on_ok : {X E A B : Type 0} (r : Result X E) → (A → B) → OnOk r A → OnOk r B
on_ok (Ok x) f h = f h
on_ok (Err e) f h = tt
