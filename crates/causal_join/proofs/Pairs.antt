-- Pairs of a store and a context, over what they hold and know.
use Rattle.std.proofs.Common.{◌≡◌, ◌↔◌, Bool, true, false, ◌||◌, Option, Some, None, refl, sym, ap, ◌∙◌, subst}
use Rattle.std.specs.Prelude.{IsTrue, IsSome, is_some}
use Rattle.std.proofs.lemmas.Bool.{or_left, or_right}
use Rattle.dots.specs.Dot.{DotValue}
use Rattle.causal_context.specs.Context.{ContextValue, has, Includes}
use Rattle.op_model.specs.State.{State, joined, join, Same, IsInside}
use Rattle.dot_store.specs.Store.{HoldsSame, state_with}
use Rattle.causal_join.specs.Causal.{state_of}

module _ {H : Type 0} (greater : H → H → H) where
  -- what the table keeps is known to one of the sides
  known_of_joined : (o p : Option H) (own theirs : Bool) → (IsSome o → IsTrue own) → (IsSome p → IsTrue theirs) → IsSome (joined greater o own p theirs)
      → IsTrue (own || theirs)
  known_of_joined (Some x) p own theirs mine yours h = or_left own theirs (mine refl)
  known_of_joined None (Some y) own theirs mine yours h = or_right own theirs (yours refl)
  known_of_joined None None own theirs mine yours h = absurd (cc h)

module _ {P H : Type 0} where
  -- what holds the same is inside the same context
  pub inside-same : (at other : P → DotValue → Option H) (test : DotValue → Bool) → HoldsSame at other → IsInside (state_with other test)
      → IsInside (state_with at test)
  inside-same at other test same inside place dot h = inside place dot (ap is_some (sym (same place dot)) ∙ h)

  -- a test that answers the same on each dot
  pub inside-has : (at : P → DotValue → Option H) (test other : DotValue → Bool) → ((dot : DotValue) → test dot ≡ other dot) → IsInside (state_with at other)
      → IsInside (state_with at test)
  inside-has at test other same inside place dot h = same dot ∙ inside place dot h

  -- the join of two states that are inside their contexts is inside the union
  pub inside-join : (greater : H → H → H) (p q : State P H) → IsInside p → IsInside q → IsInside (join greater p q)
  inside-join greater p q mine yours place dot h = known_of_joined greater (p.at place dot) (q.at place dot) (p.has dot) (q.has dot) (mine place dot)
      (yours place dot) h

module _ {S P H : Type 0} (at : S → P → DotValue → Option H) where
  -- a pair of equal parts is the same state
  pub same_parts : (mine inside copy : S × ContextValue) → inside ≡ mine → HoldsSame (at copy.0) (at inside.0)
      → ((dot : DotValue) → has copy.1 dot ≡ has inside.1 dot) → Same (state_of at copy) (state_of at mine)
  same_parts mine inside copy is same known = subst (λ p. Same (state_of at copy) (state_of at p)) is (record { at = same; has = known })

module _ {S P H : Type 0} (at : S → P → DotValue → Option H) (greater : H → H → H) where
  -- the join of the parts is the join of the pairs
  pub joined_parts : (mine other own theirs both : S × ContextValue) → own ≡ mine → theirs ≡ other
      → HoldsSame (at both.0) (join greater (state_of at own) (state_of at theirs)).at → ((dot : DotValue) → has both.1 dot ≡ has own.1 dot || has theirs.1 dot)
      → Same (state_of at both) (join greater (state_of at mine) (state_of at other))
  joined_parts mine other own theirs both is are same known =
      subst (λ q. Same (state_of at both) (join greater (state_of at mine) (state_of at q))) are
      (subst (λ p. Same (state_of at both) (join greater (state_of at p) (state_of at theirs))) is (record { at = same; has = known }))

  -- a pair is below another where its context is included and the join holds what the other holds
  pub below_iff : (mine other both : S × ContextValue) (r : Bool) → Includes other.1 mine.1
      → Same (state_of at both) (join greater (state_of at other) (state_of at mine))
      → IsTrue r ↔ HoldsSame (at both.0) (at other.0) → IsTrue r ↔ Same (join greater (state_of at other) (state_of at mine)) (state_of at other)
  below_iff mine other both r includes joins is = (
    λ t. record {
      at = λ place dot. sym (joins.at place dot) ∙ is.0 t place dot;
      has = λ dot. covered (has other.1 dot) (has mine.1 dot) (includes dot);
    },
    λ same. is.1 (λ place dot. joins.at place dot ∙ same.at place dot),
  )
    where
      covered : (x y : Bool) → (IsTrue y → IsTrue x) → x || y ≡ x
      covered true y h = refl
      covered false true h = sym (h refl)
      covered false false h = refl

  -- the same, where the parts of the pairs are read
  pub below_by_parts : (mine other both own theirs joined_one : S × ContextValue) (r : Bool) → own ≡ mine → theirs ≡ other → joined_one ≡ both
      → Includes theirs.1 own.1 → Same (state_of at both) (join greater (state_of at other) (state_of at mine))
      → IsTrue r ↔ HoldsSame (at joined_one.0) (at theirs.0) → IsTrue r ↔ Same (join greater (state_of at other) (state_of at mine)) (state_of at other)
  below_by_parts mine other both own theirs joined_one r is are one includes joins same =
      below_iff mine other both r (subst (λ p. Includes p.1 mine.1) are (subst (λ p. Includes theirs.1 p.1) is includes)) joins
      (subst (λ p. IsTrue r ↔ HoldsSame (at both.0) (at p.0)) are (subst (λ p. IsTrue r ↔ HoldsSame (at p.0) (at theirs.0)) one same))
