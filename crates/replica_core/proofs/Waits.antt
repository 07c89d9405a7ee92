-- The deltas that wait, by what they join to.
use Rattle.std.proofs.Common.{◌≡◌, ◌∙◌, ℕ, ◌≤◌, ◌<◌, ◌+◌, Bool, true, false, nat_lt, List, [], ◌∷◌, ◌++◌, map, fold, length, inl, inr, refl, sym, ap, arith}
use Rattle.std.proofs.Common.{length-append}
use Rattle.std.specs.Prelude.{◌⊎◌, max}
use Rattle.std.proofs.lemmas.Bool.Decides.{nat_tests}
use Rattle.std.proofs.lemmas.List.{length-map, map-append}
use Rattle.causal_join.specs.OrMap.{OrMapValue, or_map_state}
use Rattle.delta_ops.specs.Group.{group_state}
use Rattle.op_model.specs.Meaning.{MapState, greater, state}
use Rattle.op_model.specs.State.{Same, join}
use Rattle.replica_model.proofs.States.{same_is}
use Rattle.replica_alone.proofs.CutDeltas.{join_before}
use Rattle.replica_alone.specs.Waiting.{MANY, all_of, Queues}

-- their join is the group
waiting_from : (start : MapState) (pairs : List OrMapValue)
    → fold (λ group delta. join greater group delta) start (map or_map_state pairs) ≡ fold (λ group pair. join greater group (or_map_state pair)) start pairs
waiting_from start [] = refl
waiting_from start (pair ∷ pairs) = waiting_from (join greater start (or_map_state pair)) pairs

pub all_waiting : (pairs : List OrMapValue) → all_of (map or_map_state pairs) ≡ group_state pairs
all_waiting pairs = waiting_from (state []) pairs

-- one more stands behind them, and where many do they may be joined into one then
pub queues : (old pushed new : List OrMapValue) (delta : OrMapValue) (most : ℕ) → MANY ≤ most → pushed ≡ old ++ delta ∷ []
    → Same (group_state new) (group_state pushed) → (length pushed ≤ max most 1 → new ≡ pushed) → (new ≡ pushed) ⊎ (length new ≡ 1)
    → Queues (map or_map_state old) (or_map_state delta) (map or_map_state new)
queues old pushed new delta most enough put same kept either = by (nat_lt (length old) MANY) refl
  where
    behind : new ≡ pushed → Queues (map or_map_state old) (or_map_state delta) (map or_map_state new)
    behind is = inl (ap (map or_map_state) (is ∙ put) ∙ map-append or_map_state old (delta ∷ []))

    joined : (new : List OrMapValue) → Same (group_state new) (group_state pushed) → length new ≡ 1
        → map or_map_state new ≡ all_of (map or_map_state old ++ or_map_state delta ∷ []) ∷ []
    joined [] same one = absurd (omega (arith, one))
    joined (only ∷ []) same one =
        let alone : or_map_state only ≡ all_of (map or_map_state old ++ or_map_state delta ∷ []) =
        sym (join_before (or_map_state only)) ∙ same_is _ _ same ∙ sym (all_waiting pushed)
        ∙ ap all_of (ap (map or_map_state) put ∙ map-append or_map_state old (delta ∷ [])) in
        λ i. alone i ∷ []
    joined (only ∷ more ∷ rest) same one = absurd (omega (arith, one))

    by : (b : Bool) → nat_lt (length old) MANY ≡ b → Queues (map or_map_state old) (or_map_state delta) (map or_map_state new)
    by true few =
        let within : length old < MANY = grind (arith, nat_tests) in
        let more : length pushed ≡ length old + 1 = ap length put ∙ length-append old (delta ∷ []) in
        let least : most ≤ max most 1 = omega arith in
        behind (kept (omega (arith, within, more, enough, least)))
    by false many = or_joined either
      where
        or_joined : (new ≡ pushed) ⊎ (length new ≡ 1) → Queues (map or_map_state old) (or_map_state delta) (map or_map_state new)
        or_joined (inl is) = behind is
        or_joined (inr one) =
            let past : MANY ≤ length old = grind (arith, nat_tests) in
            inr (inl (omega (arith, past, length-map old or_map_state), joined new same one))
