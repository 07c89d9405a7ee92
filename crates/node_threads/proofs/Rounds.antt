-- The rounds of a node that is served by a timed post, and what is counted of them.
use Rattle.std.proofs.Common.{◌≡◌, ℕ, ◌+◌, ◌-◌, ◌^◌, ◌<◌, min, Bool, true, false, IsTrue, List, [], ◌∷◌, ◌++◌, Option, refl, sym, ap, ◌∙◌, subst, arith}
use Rattle.std.specs.Prelude.{◌↔◌}
use Rattle.std.proofs.lemmas.Bool.{true≢false}
use Rattle.root_cell.proofs.Prefixes.{prefix_trans}
use Rattle.shared_object.specs.Calling.{HasNotCalled}
use Rattle.replica_core.specs.declared.call.Call.TheVariants as call
use Rattle.node_threads.specs.declared.deed.Deed.TheVariants as deed
use Rattle.node_threads.specs.declared.node_event.NodeEvent.{NodeEvent}
use Rattle.node_threads.specs.Serving.{Turn, total}
use Rattle.node_threads.specs.TimedServing.{AreRounds, IsFlush, IsRound, Round}
use Rattle.node_threads.proofs.Posts.{total_both, total_end}
use Rattle.replica_core.specs.declared.letter.Letter.{Letter}
use Rattle.replica_model.specs.Replica.{Replica}
use Rattle.replica_model.specs.Step.{KnowsNone}
use Rattle.shared_object.specs.History.{Seat, calls_by}

module _ {P A : Type 0} (Receives : P → P → List ℕ → Type 0) (Sends : P → P → ℕ → List ℕ → Type 0) (Rests Ends : P → P → Type 0)
    (Spreads : P → P → List ℕ → Type 0) (Misses : P → P → Type 0) (Over : P → Type 0) (first : Replica) where
  pub round_more : (p q s : P) (old seat new : Seat (NodeEvent A)) (rounds : List Round) (r : Round)
      → AreRounds Receives Sends Rests Ends Spreads Misses Over first p q old seat rounds
      → IsRound Receives Sends Rests Ends Spreads Misses Over first q s seat new r
      → AreRounds Receives Sends Rests Ends Spreads Misses Over first p s old new (rounds ++ r ∷ [])
  round_more p q s old seat new [] r h is = (
    s,
    new,
    subst (λ x. IsRound Receives Sends Rests Ends Spreads Misses Over first x s old new r) h.0
        (subst (λ t. IsRound Receives Sends Rests Ends Spreads Misses Over first q s t new r) h.1 is),
    (refl, refl),
  )
  round_more p q s old seat new (x ∷ rounds) r h is = (h.0, h.1, h.2, round_more h.0 q s h.1 seat new rounds r h.3 is)

by_false : (b : Bool) → b ≡ false → IsTrue b → ⊥
by_false b h t = cc

pub not_so : {X : Type 0} (b : Bool) → b ≡ false → IsTrue b ↔ X → ¬ X
not_so b h e x = by_false b h (e.1 x)

-- ---- a flush where something waits, and none where nothing does
pub waits_for_nothing : (b : Bool) (r : Replica) → b ≡ false → IsTrue b ↔ (¬ KnowsNone r.group) → KnowsNone r.group
waits_for_nothing b r h e dot = by (r.group.has dot) refl
  where
    by : (known : Bool) → r.group.has dot ≡ known → r.group.has dot ≡ false
    by false is = is
    by true is = absurd (not_so b h e (λ none. true≢false (sym is ∙ none dot)))

module _ {A : Type 0} where
  abbrev place : NodeEvent A → ℕ
  place e = e.place

  pub not_called_yet : (old mid new : Seat (NodeEvent A)) → HasNotCalled place old mid → HasNotCalled place mid new → HasNotCalled place old new
  not_called_yet old mid new h k = record {
    seat = k.seat ∙ h.seat;
    operations = k.operations ∙ h.operations;
    made = k.made ∙ h.made;
    seen = prefix_trans old.front mid.front new.front h.seen k.seen;
  }

  pub flushed_then : (first : Replica) (old mid new : Seat (NodeEvent A)) (sent : Option (Letter A)) → HasNotCalled place old mid
      → IsFlush first mid new sent → IsFlush first old new sent
  flushed_then first old mid new sent h (history, is, gives) = (
    history,
    record {
      seen = prefix_trans old.front mid.front history h.seen is.seen;
      own = ap (λ n. calls_by place n history) (sym h.seat) ∙ is.own ∙ h.made;
      seat = is.seat ∙ h.seat;
      operations = is.operations ∙ ap (λ n. n + 1) h.operations;
      front = is.front ∙ ap (λ n. history ++ record { place = n; deeds = deed.Call call.Flush ∷ [] } ∷ []) h.seat;
    },
    gives,
  )

-- ---- the numbers

folded : (limit s t u a b c : ℕ) → a ≡ min s limit → b ≡ min t limit → c ≡ min (a + b) limit → u ≡ s + t → c ≡ min u limit
folded limit s t u a b c h i j k = omega (arith, h, i, j, k)

-- a number of a time of serving and of all rounds, once one more came to them
pub counted : (limit k : ℕ) (of : Round → ℕ) (rounds : List Round) (r : Round) (a b c : ℕ) → a ≡ min (k + total of rounds) limit → b ≡ min (of r) limit
    → c ≡ min (a + b) limit → c ≡ min (k + total of (rounds ++ r ∷ [])) limit
counted limit k of rounds r a b c h i j =
    folded limit (k + total of rounds) (of r) (k + total of (rounds ++ r ∷ [])) a b c h i j (omega (arith, total_end of rounds r))

pub counted_rounds : (limit : ℕ) (of : Round → ℕ) (rounds : List Round) (r : Round) (a b c : ℕ) → a ≡ min (total of rounds) limit → b ≡ min (of r) limit
    → c ≡ min (a + b) limit → c ≡ min (total of (rounds ++ r ∷ [])) limit
counted_rounds limit of rounds r a b c h i j = folded limit (total of rounds) (of r) (total of (rounds ++ r ∷ [])) a b c h i j (total_end of rounds r)

pub counted_alone : (limit k c : ℕ) → c ≡ min k limit → c ≡ min (k + 0) limit
counted_alone limit k c h = omega (arith, h)

pub counted_whole : (n : ℕ) → n < 2 ^ 64 → n ≡ min n (2 ^ 64 - 1)
counted_whole n h = omega (arith, h)

-- and one of both turns
pub counted_both : (limit : ℕ) (of : Turn → ℕ) (xs ys : List Turn) (a b c : ℕ) → a ≡ min (total of xs) limit → b ≡ min (total of ys) limit
    → c ≡ min (a + b) limit → c ≡ min (total of (xs ++ ys)) limit
counted_both limit of xs ys a b c h i j = folded limit (total of xs) (total of ys) (total of (xs ++ ys)) a b c h i j (total_both of xs ys)
