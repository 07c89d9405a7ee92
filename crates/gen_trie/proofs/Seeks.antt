-- What stands under a prefix, index by index.
use Rattle.std.proofs.Common.{◌≡◌, ◌≢◌, ℕ, suc, List, [], ◌∷◌, cond, ◌∙◌, ap, subst, eq-eqb, ne_eqb}
use Rattle.std.specs.Prelude.{MatchOption}
use Rattle.std.specs.declared.option.Option.{Option}
use Rattle.hash_path.specs.Word.{word, digit}
use Rattle.hash_path.specs.Fan.{fan, Rise, at}
use Rattle.hash_path.specs.Summary.{under_prefix}
use Rattle.hash_path.proofs.Summaries.{under_none, under_child}
use Rattle.gen_trie.specs.declared.node.Slot.{Slot}
use Rattle.gen_trie.specs.Shapes.{child, StandsBelow}

-- of entries under a prefix, what was found of them: nothing, or a child of a height
abbrev pub Finds : {V M A X : Type 0} → (X → Slot V M A) → List (List ℕ × V) → ℕ → Option X → Type 0
Finds slot es height r = MatchOption r (es ≡ []) (λ found. (es ≡ (child height (slot found)).1) × StandsBelow height (slot found))

pub finds_same : {V M A X : Type 0} (slot : X → Slot V M A) (es fs : List (List ℕ × V)) (h k : ℕ) (r : Option X) → es ≡ fs → h ≡ k → Finds slot es h r
    → Finds slot fs k r
finds_same slot es fs h k r same e f = subst (λ n. Finds slot fs n r) e (subst (λ l. Finds slot l h r) same f)

module _ {V : Type 0} (i : ℕ) (p : List ℕ) (below height hash : ℕ) (key : List ℕ) (v : V) (up : height ≡ suc below) where
  pub one_away : i ≢ digit below hash → under_prefix (i ∷ p) ((word height hash key, v) ∷ []) ≡ []
  one_away apart =
      ap (λ h. under_prefix (i ∷ p) ((word h hash key, v) ∷ [])) up
      ∙ ap (λ b. under_prefix p (cond b ((word below hash key, v) ∷ []) [])) (ne_eqb i (digit below hash) apart) ∙ under_none p

  pub one_there : i ≡ digit below hash → under_prefix (i ∷ p) ((word height hash key, v) ∷ []) ≡ under_prefix p ((word below hash key, v) ∷ [])
  one_there same =
      ap (λ h. under_prefix (i ∷ p) ((word h hash key, v) ∷ [])) up
      ∙ ap (λ b. under_prefix p (cond b ((word below hash key, v) ∷ []) [])) (eq-eqb i (digit below hash) same)

pub branch_there : {V : Type 0} (node : ℕ × List (List ℕ × V)) (i : ℕ) (p : List ℕ) (below : ℕ) (cs : List (ℕ × List (List ℕ × V))) (es : List (List ℕ × V))
    → node ≡ (suc below, fan cs) → Rise 0 cs
    → at i cs ≡ es → under_prefix (i ∷ p) node.1 ≡ under_prefix p es
branch_there node i p below cs es e rise is = ap (λ n. under_prefix (i ∷ p) n.1) e ∙ under_child i p cs rise ∙ ap (under_prefix p) is
