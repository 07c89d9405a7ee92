-- What led to a world is a run of its events, and goes on by one more.
use Rattle.std.proofs.Common.{◌≡◌, ℕ, ◌+◌, List, [], ◌∷◌, ◌++◌, length, refl, subst}
use Rattle.replica_model.specs.World.{World, nothing, Happens}
use Rattle.replica_model.specs.Happened.{Happened, Leads}
use Rattle.replica_model.specs.Accounts.{LeadsRun, LeadsGoOn}

pub leads_run : LeadsRun
leads_run hash_of [] w v same = same
leads_run hash_of (h ∷ hs) w v (u, step, count, rest) = (h.answer, u, step, leads_run hash_of hs u v rest)

leads_on : (hash_of : List ℕ → ℕ) (hs : List Happened) (u w v : World) (h : Happened) → Leads hash_of u hs w → Happens hash_of w h.event h.answer v
    → length v.messages ≡ length w.messages + h.sent → Leads hash_of u (hs ++ h ∷ []) v
leads_on hash_of [] u w v h same step count =
    (v, subst (λ s. Happens hash_of s h.event h.answer v) same step, subst (λ (s : World). length v.messages ≡ length s.messages + h.sent) same count, refl)
leads_on hash_of (x ∷ hs) u w v h (t, first, more, rest) step count = (t, first, more, leads_on hash_of hs t w v h rest step count)

pub leads_go_on : LeadsGoOn
leads_go_on hash_of hs w v h = leads_on hash_of hs nothing w v h
