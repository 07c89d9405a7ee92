-- A replica by itself stays within its limits.
use Rattle.std.proofs.Common.{ℕ, List, [], ◌∷◌, ◌++◌, sym}
use Rattle.std.proofs.Common.{subst, arith}
use Rattle.replica_model.specs.Alone.{Deed, Calls, Comes, Befalls, RunsAlone}
use Rattle.replica_model.specs.Delivery.{Turn}
use Rattle.replica_model.specs.Laws.{IsWithinLimits}
use Rattle.replica_model.specs.Step.{Answer}
use Rattle.replica_model.specs.World.{World, nothing}
use Rattle.replica_model.proofs.Limits.{call_limits, delivery_limits}
use Rattle.replica_model.proofs.SessionsAlone.{by_deeds}
use Rattle.replica_alone.specs.Finite.{WithinLimitsAlone}
use Rattle.replica_alone.proofs.Deeds.{called_now, came_now}

module _ (hash_of : List ℕ → ℕ) (name : ℕ) where
  abbrev Within : List Deed → World → Type 0
  Within deeds w = IsWithinLimits (w.replica name)

  limits_next : (deeds : List Deed) (w v : World) (d : Deed) (answer : Answer) → RunsAlone hash_of name nothing deeds w → Within deeds w
      → Befalls hash_of name w d answer v → Within (deeds ++ d ∷ []) v
  limits_next deeds w v (Calls c) answer runs l befalls =
      let d = called_now hash_of name w v c answer befalls in
      subst IsWithinLimits (sym d.here) (call_limits (w.replica name) d.new c answer d.out l d.step)
  limits_next deeds w v (Comes mail of) answer runs l befalls =
      let d = came_now hash_of name w v mail of answer befalls in
      subst IsWithinLimits (sym d.here) (subst (λ (t : Turn). IsWithinLimits t.new) d.step (delivery_limits hash_of d.own (w.replica name) l mail))

pub limits_alone : WithinLimitsAlone
limits_alone hash_of name =
    by_deeds hash_of name (Within hash_of name) (record { sessions = omega arith; kept = omega arith; numbered = omega arith; opened = omega arith })
    (limits_next hash_of name)
