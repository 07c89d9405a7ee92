-- Each call and each delivery befalls a replica by itself, or is refused, where its live state is finite.
use Rattle.std.proofs.Common.{◌⊎◌, inl, inr, ℕ, List, [], refl}
use Rattle.dots.specs.declared.refusal.Refusal.{Refusal}
use Rattle.replica_model.specs.Alone.{Deed, Calls, Comes, Befalls}
use Rattle.replica_model.specs.Delivery.{delivered}
use Rattle.replica_model.specs.Step.{Call, Answer, Came}
use Rattle.replica_model.specs.World.{World, calls, takes, goes}
use Rattle.replica_model.proofs.Finite.{finite_map, map_stands}
use Rattle.replica_model.proofs.Happening.{CallsOrNot, call_or}
use Rattle.replica_model.proofs.One.{refused_none}
use Rattle.replica_alone.specs.Finite.{RefusesDeed, BefallOrAreRefused, RefusedDoesNotBefall}
use Rattle.replica_alone.proofs.Living.{IsLiving, living}

module _ (hash_of : List ℕ → ℕ) (name : ℕ) (w : World) (l : IsLiving (w.replica name)) where
  abbrev Either : Deed → Type 0
  Either d = ((answer : Answer) × (v : World) × Befalls hash_of name w d answer v) ⊎ ((refusal : Refusal) × RefusesDeed (w.replica name) d refusal)

  called : (c : Call) → CallsOrNot (w.replica name) c → Either (Calls c)
  called c (inl (new, answer, out, step)) = inl (answer, goes name new out (w.outgoing name) (calls name c w), (new, out, step, refl))
  called c (inr refused) = inr refused

  each : (d : Deed) → Either d
  each (Calls c) = called c (call_or (w.replica name) l.live.0 l.live.1 l.group c)
  each (Comes mail of) =
      let own = finite_map (w.replica name).live l.live.0 l.live.1 in
      let t = delivered hash_of own (w.replica name) mail in
      let is = map_stands (w.replica name).live l.live.0 l.live.1 in
      inl (
        Came t.outcome,
        goes name t.new t.replies [] (takes name (w.replica name) mail of t.outcome w),
        (t.new, t.outcome, t.replies, refl, (t.outcome, refl, (own, is, refl)), refl),
      )

pub befall_or_refused : BefallOrAreRefused
befall_or_refused hash_of name deeds w runs came = each hash_of name w (living hash_of name deeds w runs came)

pub refused_not_befalls : RefusedDoesNotBefall
refused_not_befalls hash_of name w v (Calls c) answer refusal refuses (new, out, step, after) =
    refused_none hash_of (w.replica name) new c answer out refusal refuses step
refused_not_befalls hash_of name w v (Comes mail of) answer refusal refuses befalls = refuses
