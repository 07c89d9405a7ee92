-- When a session has all: where what it fetches is complete, the maps differ nowhere that was not taken.
use Rattle.std.proofs.Common.{◌≡◌, ◌⊎◌, inl, inr, List, [], ◌∷◌, length, ℕ, Bool, true, false, Some, None, arith, refl, sym, ap, ◌∙◌, subst}
use Rattle.std.specs.Prelude.{Contains, nat_lt, not, cond}
use Rattle.std.specs.List.{filter, flat_map}
use Rattle.std.specs.FinMap as finite
use Rattle.std.specs.FinMap.{get-entries}
use Rattle.std.specs.FinMap.Entries.{find}
use Rattle.std.proofs.lemmas.List.{length-append}
use Rattle.std.proofs.lemmas.List.Elements.{Contains-append_cases}
use Rattle.dots.specs.Dot.{DotValue}
use Rattle.hash_path.specs.Path.{prefix_cmp}
use Rattle.hash_path.specs.Map.{walk_under}
use Rattle.hash_path.proofs.Words.{same_tied}
use Rattle.causal_join.specs.OrMap.{ValuesValue, FieldsValue}
use Rattle.op_model.proofs.Members.{nothing_in, at_head, in_tail, head_or_tail, from_map, from_filter}
use Rattle.wire_form.specs.Page.{PageValue}
use Rattle.prefix_digest.specs.Page.{page_at}
use Rattle.prefix_digest.specs.Values.{unknown_in_values, unknown_in_fields, unknown_in, unknown_at}
use Rattle.sync_model.specs.Differ.{Held, IsAbove, Differ, Waits}
use Rattle.sync_model.specs.Fetch.{Fetch}
use Rattle.sync_model.specs.Laws.{Taking, TakenAt, HoldsValue, MetPage, MetValue, NoClash, IsFetched}
use Rattle.sync_model.proofs.Fetching.{Shown, Leaf, Parts, shown}
use Rattle.sync_model.proofs.Members.{In-Contains, part_found}
use Rattle.replica_model.specs.Delivery.{is_complete}
use Rattle.replica_model.proofs.Ending.{none_waits}

-- ---- what is complete waits for nothing, and what is not for something

some_waits : (f : Fetch) → is_complete f ≡ false → (p : List ℕ) × (d : List ℕ) × (finite.get f.waiting p ≡ Some d)
some_waits f e = by (finite.entries f.waiting) refl e
  where
    by : (es : List (List ℕ × List ℕ)) → finite.entries f.waiting ≡ es → nat_lt (length es) 1 ≡ false → (p : List ℕ) × (d : List ℕ)
        × (finite.get f.waiting p ≡ Some d)
    by [] are e = absurd cc
    by ((p, d) ∷ es) are e = (
      p,
      d,
      get-entries f.waiting p ∙ ap (find prefix_cmp p) are
          ∙ ap (λ b. cond b (Some d) (find prefix_cmp p es)) (same_tied p p refl),
    )

-- nothing is waited for
abbrev pub NoneWaits : (List ℕ → ℕ) → Held → Held → List Taking → Type 0
NoneWaits hash_of own theirs ts = (p d : List ℕ) → ¬ Waits hash_of own theirs (TakenAt ts) p d

module _ (hash_of : List ℕ → ℕ) (own theirs : Held) (seen opened : DotValue → Bool) (ts : List Taking) (f : Fetch)
    (law : IsFetched hash_of own theirs seen opened ts f) where
  pub complete_waits : is_complete f ≡ true → NoneWaits hash_of own theirs ts
  complete_waits e p d waits = let some : None ≡ Some d = sym (none_waits f e p) ∙ (law.waits p d).1 waits in absurd cc

  pub incomplete_waits : is_complete f ≡ false → ¬ NoneWaits hash_of own theirs ts
  incomplete_waits e none = let one = some_waits f e in none one.0 one.1 ((law.waits one.0 one.1).0 one.2)

-- at first nothing is waited for where the maps differ nowhere
module _ (hash_of : List ℕ → ℕ) (own theirs : Held) where
  none_above : (q : List ℕ) → IsAbove q [] → ⊥
  none_above q up = let long = ap length up.2 in let more = length-append q (up.0 ∷ up.1) in omega (arith, long, more)

  pub differ_nowhere : NoneWaits hash_of own theirs [] → (p d : List ℕ) → ¬ Differ hash_of own theirs p d
  differ_nowhere none [] d differ = none [] d (differ, (λ t. t), λ q up. absurd (none_above q up))
  differ_nowhere none (i ∷ p) d differ =
      let root = (differ.1 [] (i, p, refl)).1 in
      none [] root.0 ((root.1, λ q up. absurd (none_above q up)), (λ t. t), λ q up. absurd (none_above q up))

  pub none_waits_first : ((p d : List ℕ) → ¬ Differ hash_of own theirs p d) → NoneWaits hash_of own theirs []
  none_waits_first nowhere p d waits = nowhere p d waits.0

-- ---- a page of theirs meets nothing new

from_flat_map : {X A : Type 0} (f : X → List A) (xs : List X) (y : A) → Contains (flat_map f xs) y → (x : X) × Contains xs x × Contains (f x) y
from_flat_map f [] y h = nothing_in y h
from_flat_map f (x ∷ xs) y h = by (Contains-append_cases (f x) (flat_map f xs) y h) (from_flat_map f xs y)
  where
    by : Contains (f x) y ⊎ Contains (flat_map f xs) y → (Contains (flat_map f xs) y → (z : _) × Contains xs z × Contains (f z) y) → (z : _)
        × Contains (x ∷ xs) z × Contains (f z) y
    by (inl here) rest = (x, at_head x xs, here)
    by (inr there) rest = let found = rest there in (found.0, in_tail x xs found.0 found.1, found.2)

module _ (hash_of : List ℕ → ℕ) (own theirs : Held) (seen : DotValue → Bool) (p : List ℕ) (page : PageValue) (is : page_at hash_of theirs p ≡ Some page) where
  unknown_held : (v : List ℕ) → Contains (unknown_at seen hash_of theirs p) v → HoldsValue theirs v
  unknown_held v h = step (shown hash_of theirs p page is)
    where
      in_values : (vs : ValuesValue) → Contains (unknown_in_values seen vs) v → (d : DotValue) × Contains vs (d, v)
      in_values vs h =
          let found = from_map (λ (x : DotValue × List ℕ). x.1) (filter (λ (x : DotValue × List ℕ). not (seen x.0)) vs) v h in
          let there = (from_filter (λ (x : DotValue × List ℕ). not (seen x.0)) vs found.0 found.1).0 in
          (found.0.0, subst (λ u. Contains vs (found.0.0, u)) found.2 there)

      in_walk : Contains (unknown_in seen (walk_under hash_of p theirs)) v → HoldsValue theirs v
      in_walk h =
          let e = from_flat_map (λ (e : List ℕ × FieldsValue). unknown_in_fields seen e.1) (walk_under hash_of p theirs) v h in
          let f = from_flat_map (λ (f : List ℕ × ValuesValue). unknown_in_values seen f.1) e.0.1 v e.2 in (
            e.0.0,
            e.0.1,
            (part_found hash_of theirs p e.0.0 e.0.1 (In-Contains (walk_under hash_of p theirs) e.0 e.1)).0,
            (f.0.0, f.0.1, f.1, in_values f.0.1 f.2),
          )

      step : Shown hash_of theirs p page → HoldsValue theirs v
      step (Leaf none entries off values) = in_walk (subst (λ vs. Contains vs v) (values seen) h)
      step (Parts less cs same are values) = nothing_in v (subst (λ vs. Contains vs v) (values seen) h)

  module _ (ts : List Taking) where
    abbrev taking : Taking
    taking = record { prefix = p; page = page; sent = unknown_at seen hash_of theirs p }

    met_page : (a : PageValue) → MetPage hash_of own theirs (taking ∷ ts) a → MetPage hash_of own theirs ts a
    met_page a (inl held) = inl held
    met_page a (inr (t, there, e)) = by (head_or_tail taking ts t there)
      where
        by : (taking ≡ t) ⊎ Contains ts t → MetPage hash_of own theirs ts a
        by (inl same) = inl (inr (p, is ∙ ap Some (ap (λ (x : Taking). x.page) same ∙ e)))
        by (inr old) = inr (t, old, e)

    met_value : (a : List ℕ) → MetValue hash_of own theirs (taking ∷ ts) a → MetValue hash_of own theirs ts a
    met_value a (inl held) = inl held
    met_value a (inr (t, there, h)) = by (head_or_tail taking ts t there)
      where
        by : (taking ≡ t) ⊎ Contains ts t → MetValue hash_of own theirs ts a
        by (inl same) = inl (inr (unknown_held a (subst (λ (x : Taking). Contains x.sent a) (sym same) h)))
        by (inr old) = inr (t, old, h)

    pub theirs_clean : NoClash hash_of own theirs ts → NoClash hash_of own theirs (taking ∷ ts)
    theirs_clean clean = record {
      pages = λ a b x y. clean.pages a b (met_page a x) (met_page b y);
      values = λ a b x y. clean.values a b (met_value a x) (met_value b y);
    }
