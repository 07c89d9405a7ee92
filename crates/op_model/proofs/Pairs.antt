-- How a pair that means a set keeps its meaning: each move of a world, for a replica's live pair and for its group.
-- A world of later crates needs these: its pairs p, with `Same p (state S)`, become joins with a delta.
use Rattle.std.proofs.Common.{◌≡◌, ◌≢◌, ℕ, zero, suc, ◌+◌, ◌<◌, ◌≤◌, length, List, [], ◌∷◌, ◌++◌, refl, sym, ap, subst, eq-eqb, arith, add-one}
use Rattle.std.proofs.lemmas.List.{get_or_append_left, get_or_push}
use Rattle.std.specs.Prelude.{◌==◌}
use Rattle.std.proofs.lemmas.Bool.{ne_eqb}
use Rattle.std.proofs.lemmas.List.Elements.{Contains-append_right}
use Rattle.op_model.specs.State.{join, Same}
use Rattle.op_model.specs.Operation.{Operation, NoReuse, IsPartOf}
use Rattle.op_model.specs.Meaning.{MapState, greater, state}
use Rattle.op_model.specs.World.{AbstractWorld, IsSound, Means, message, grown, emptied, group_messages, makes, learns}
use Rattle.op_model.proofs.Joins.{join-same, same-chain}
use Rattle.op_model.proofs.Union.{join-states}
use Rattle.op_model.proofs.Fresh.{IsNew, sound-makes, NoReuse-part, part_both, part_left}

-- two pairs that mean two sets of one whole: their join means the union
pub joins : (S T whole : List Operation) (p q : MapState) → NoReuse whole → IsPartOf S whole → IsPartOf T whole → Same p (state S) → Same q (state T) →
    Same (join greater p q) (state (S ++ T))
joins S T whole p q r here there left right =
    same-chain (join greater p q) (join greater (state S) (state T)) (state (S ++ T))
    (join-same greater p q (state S) (state T) left right)
    (join-states S T (NoReuse-part (S ++ T) whole (part_both S T whole here there) r))

-- a set that grows, at the name meant and at another
pub grown-here : (name : ℕ) (S more : List Operation) → grown (name == name) S more ≡ S ++ more
grown-here name S more = ap (λ b. grown b S more) (eq-eqb name name refl)

pub grown-there : (n name : ℕ) (S more : List Operation) → n ≢ name → grown (n == name) S more ≡ S
grown-there n name S more apart = ap (λ b. grown b S more) (ne_eqb n name apart)

pub emptied-here : (name : ℕ) (S : List Operation) → emptied (name == name) S ≡ []
emptied-here name S = ap (λ b. emptied b S) (eq-eqb name name refl)

pub emptied-there : (n name : ℕ) (S : List Operation) → n ≢ name → emptied (n == name) S ≡ S
emptied-there n name S apart = ap (λ b. emptied b S) (ne_eqb n name apart)

means : (p : MapState) (S T : List Operation) → S ≡ T → Same p (state T) → Same p (state S)
means p S T e h = let P : List Operation → Type 0 = λ U. Same p (state U) in subst P (sym e) h

-- the live pair and the group of a replica that makes operations, from its own and a delta that means these
module _ (w : AbstractWorld) (sound : IsSound w) (name : ℕ) (more : List Operation) (new : IsNew (w.seen name) name more) where
  part_seen : IsPartOf (w.seen name) (w.made ++ more)
  part_seen = part_left (w.seen name) w.made more (sound.seen name)

  part_outgoing : IsPartOf (w.outgoing name) (w.made ++ more)
  part_outgoing = part_left (w.outgoing name) w.made more (sound.outgoing name)

  part_more : IsPartOf more (w.made ++ more)
  part_more = λ o h. Contains-append_right w.made more o h

  pub makes_live : (p d : MapState) → Same p (state (w.seen name)) → Same d (state more) → Same (join greater p d) (state ((makes name more w).seen name))
  makes_live p d live delta =
      means (join greater p d) ((makes name more w).seen name) (w.seen name ++ more) (grown-here name (w.seen name) more)
      (joins (w.seen name) more (w.made ++ more) p d (sound-makes w name more sound new).no_reuse part_seen part_more live delta)

  pub makes_group : (g d : MapState) → Same g (state (w.outgoing name)) → Same d (state more)
      → Same (join greater g d) (state ((makes name more w).outgoing name))
  makes_group g d group delta =
      means (join greater g d) ((makes name more w).outgoing name) (w.outgoing name ++ more) (grown-here name (w.outgoing name) more)
      (joins (w.outgoing name) more (w.made ++ more) g d (sound-makes w name more sound new).no_reuse part_outgoing part_more group delta)

-- the live pair of a replica that learns a part of what was made
pub learns_live : (w : AbstractWorld) → IsSound w → (name : ℕ) (more : List Operation) → IsPartOf more w.made → (p d : MapState) →
    Same p (state (w.seen name)) → Same d (state more) → Same (join greater p d) (state ((learns name more w).seen name))
learns_live w sound name more part p d live delta =
    means (join greater p d) ((learns name more w).seen name) (w.seen name ++ more) (grown-here name (w.seen name) more)
    (joins (w.seen name) more w.made p d sound.no_reuse (sound.seen name) part live delta)

-- an added message, and those before it
pub message-kept : (ms more : List (List Operation)) (number : ℕ) → number ≤ length ms → message (ms ++ more) number ≡ message ms number
message-kept ms more zero h = refl
message-kept ms more (suc n) h = let inside : n < length ms = omega arith in get_or_append_left ms more [] n inside

pub message-added : (ms : List (List Operation)) (S : List Operation) → message (ms ++ S ∷ []) (length ms + 1) ≡ S
message-added ms S = rw add-one (get_or_push ms S [] (length ms) refl)

pub sent-some : (S : List Operation) → S ≢ [] → group_messages S ≡ S ∷ []
sent-some [] h = absurd (h refl)
sent-some (o ∷ S) h = refl

-- pairs that are the same mean the same
pub means-same : (p q g h : MapState) (w : AbstractWorld) (name : ℕ) → Same q p → Same h g → Means p g w name → Means q h w name
means-same p q g h w name live group means = record {
  seen = same-chain q p (state (w.seen name)) live means.seen;
  outgoing = same-chain h g (state (w.outgoing name)) group means.outgoing;
}
