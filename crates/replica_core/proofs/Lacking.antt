-- Which dots of a name a context lacks of another.
use Rattle.std.proofs.Common.{◌≡◌, ℕ, ◌≤◌, ◌<◌, ◌+◌, List, Bool, true, false, refl, sym, ap, subst, ◌∙◌, arith}
use Rattle.std.specs.Prelude.{IsTrue}
use Rattle.std.proofs.lemmas.Bool.{false≢true}
use Rattle.dots.specs.Dot.{DotValue}
use Rattle.causal_context.specs.Context.{ContextValue, has, in_cloud, known_up_to}
use Rattle.causal_context.specs.Canonical.{IsCanonical}
use Rattle.causal_context.proofs.Known.{known_below, known_cases, known_in_cloud}
use Rattle.causal_context.proofs.Growths.{next_is_new}
use Rattle.replica_core.specs.Guarding.{LacksOf}

module _ (own other : ContextValue) (name : ℕ) where
  -- the dot above the own entry, where that of the other is greater
  pub lacks_next : IsCanonical own → known_up_to own.vector name < known_up_to other.vector name → LacksOf (has own) (has other) name
  unfolding has
  lacks_next canonical less =
      let entry = known_up_to own.vector in
      let new = next_is_new entry (in_cloud own.cloud) name (entry name + 1) canonical.apart (omega arith) in (
        entry name + 1,
        known_below (known_up_to other.vector) (in_cloud other.cloud) (record { name = name; number = entry name + 1 }) (omega arith)
            (omega arith),
        new.unknown,
      )

  -- a dot that stands apart in the other
  pub lacks_apart : IsCanonical other → (dot : DotValue) → IsTrue (in_cloud other.cloud dot) → (dot.name ≡ name) × (has own dot ≡ false)
      → LacksOf (has own) (has other) name
  unfolding has
  lacks_apart canonical dot there lacking =
      let above = canonical.apart dot there in
      let at : dot ≡ record { name = name; number = dot.number } = λ i. record { name = lacking.0 i; number = dot.number } in (
        dot.number,
        subst (λ d. IsTrue (has other d)) at (known_in_cloud (known_up_to other.vector) (in_cloud other.cloud) dot (omega arith) there),
        subst (λ d. has own d ≡ false) at lacking.1,
      )

  -- and no other one
  pub lacks_none : known_up_to other.vector name ≤ known_up_to own.vector name
      → ((d : DotValue) → IsTrue (in_cloud other.cloud d) → d.name ≡ name → IsTrue (has own d)) → ¬ LacksOf (has own) (has other) name
  unfolding has
  lacks_none up apart (number, there, lacking) =
      let d : DotValue = record { name = name; number = number } in
      false≢true (sym lacking ∙ known_cases (IsTrue (has own d)) (known_up_to other.vector) (in_cloud other.cloud) d there
      (λ one below. known_below (known_up_to own.vector) (in_cloud own.cloud) d one (omega arith)) (λ one in_it. apart d in_it refl))

-- where it is not lacking, it is there
pub is_there_unless : (own : ContextValue) (dot : DotValue) (name : ℕ) (b : Bool) → b ≡ false → ((dot.name ≡ name) × (has own dot ≡ false) → IsTrue b)
    → dot.name ≡ name → IsTrue (has own dot)
is_there_unless own dot name b is lacking named = by (has own dot) refl
  where
    by : (x : Bool) → has own dot ≡ x → IsTrue x
    by true e = refl
    by false e = absurd (false≢true (sym is ∙ lacking (named, e)))
