-- Where the close of a synchronisation changes nothing, and what the index names after it.
use Rattle.std.proofs.Common.{◌≡◌, ℕ, ◌≤◌, ◌<◌, List, Bool, true, false, cond, Option, Some, None, refl, sym, ap, subst, ◌∙◌, rules}
use Rattle.std.specs.Prelude.{IsTrue, IsSome, is_some, ◌&&◌, ◌||◌, nat_le}
use Rattle.std.specs.FinMap as finite
use Rattle.std.proofs.lemmas.Bool.{leb-false}
use Rattle.dots.specs.Bytes.{bytes_cmp}
use Rattle.dots.specs.Dot.{DotValue}
use Rattle.causal_context.specs.Context.{ContextValue, has, known_up_to, in_cloud}
use Rattle.dot_store.specs.Store.{HoldsSame, state_with}
use Rattle.dot_store.specs.Stores.{held_by}
use Rattle.causal_join.specs.Causal.{state_of}
use Rattle.op_model.specs.State.{joined, join, Same}
use Rattle.trie_map.specs.Keyed.{TrieMapValue, at_keys}
use Rattle.live_map.specs.Closing.{ChangesOnlyAt, IsTouchedSince}
use Rattle.live_map.specs.Index.{PlaceValue, names, has_key, IsIndexed}
use Rattle.live_map.specs.Live.{PairValue}
use Rattle.live_map.proofs.Changing.{held_in}

-- what a join leaves as it is under one context it leaves so under another one, unless a dot that stands is known there alone
same_by : {H : Type 0} (greater : H → H → H) (m y : Option H) (own s t : Bool) → joined greater m own y s ≡ m → ((x : H) → m ≡ Some x → t ≡ true → s ≡ true)
    → m ≡ joined greater m own y t
same_by greater (Some x) (Some y) own s t was known = sym was
same_by greater (Some x) None own s true was known =
    let gone : cond true None (Some x) ≡ Some x = subst (λ b. cond b None (Some x) ≡ Some x) (known x refl refl) was in absurd (cc gone)
same_by greater (Some x) None own s false was known = refl
same_by greater None (Some y) own s t was known = sym was
same_by greater None None own s t was known = refl

-- two tries that have the same at a key hold the same there
pub held_alike : {S P H Hash : Type 0} (at : S → P → DotValue → Option H) (built base : TrieMapValue Hash S) (q : List ℕ)
    → finite.get built.1 q ≡ finite.get base.1 q → (place : P) (d : DotValue) → at_keys at built (q, place) d ≡ at_keys at base (q, place) d
unfolding at_keys
held_alike at built base q same place d = ap (λ o. held_by at o place d) same

module _ {P H : Type 0} (greater : H → H → H) (mine base built : List ℕ × P → DotValue → Option H) (own seen theirs : DotValue → Bool)
    (places : List PlaceValue) (touched : finite.FinMap bytes_cmp (Unit {0})) (keys : List (List ℕ))
    (since : IsTouchedSince places touched seen theirs keys) (had : IsIndexed mine places)
    (below : (place : List ℕ × P) (d : DotValue) → joined greater (mine place d) (own d) (base place d) (seen d) ≡ mine place d)
    (rest : (q : List ℕ) → finite.get touched q ≡ None → (place : P) (d : DotValue) → built (q, place) d ≡ base (q, place) d) where
  untouched : (q : List ℕ) (o : Option (Unit {0})) → finite.get touched q ≡ o → has_key keys q ≡ false → finite.get touched q ≡ None
  untouched q None is apart = is
  untouched q (Some u) is apart = absurd (cc (apart, since.own q (ap is_some is)))

  was_known : (q : List ℕ) (place : P) (d : DotValue) (b : Bool) → seen d ≡ b → has_key keys q ≡ false → (x : H) → mine (q, place) d ≡ Some x → theirs d ≡ true
      → seen d ≡ true
  was_known q place d true e apart x is known = e
  was_known q place d false e apart x is known = absurd (cc (apart, since.named d q (had q place d (ap is_some is)) known e))

  -- at a key that was not touched, and where no dot stands that is known now and was not, the built store changes nothing
  pub changes_only : ChangesOnlyAt greater mine own built theirs keys
  changes_only q apart place d =
      let alike = rest q (untouched q (finite.get touched q) refl apart) place d in
      same_by greater (mine (q, place) d) (base (q, place) d) (own d) (seen d) (theirs d) (below (q, place) d) (was_known q place d (seen d) refl apart)
      ∙ ap (λ y. joined greater (mine (q, place) d) (own d) y (theirs d)) (sym alike)

module _ {P H : Type 0} (greater : H → H → H) (mine yours both : List ℕ × P → DotValue → Option H) (own theirs : DotValue → Bool) (places : List PlaceValue)
    (keys : List (List ℕ))
    (only : ChangesOnlyAt greater mine own yours theirs keys) (same : HoldsSame both (join greater (state_with mine own) (state_with yours theirs)).at)
    (had : IsIndexed mine places)
    (has_yours : (q : List ℕ) → IsTrue (has_key keys q) → (place : P) (d : DotValue) → IsSome (yours (q, place)
    d) → own d ≡ false → IsTrue (names places d q)) where
  indexed_at : (q : List ℕ) (b : Bool) → has_key keys q ≡ b → (place : P) (d : DotValue) → IsSome (both (q, place) d) → IsTrue (names places d q)
  indexed_at q true e place d h =
      held_in greater (mine (q, place) d) (own d) (yours (q, place) d) (theirs d) (IsTrue (names places d q)) (ap is_some (sym (same (q, place) d)) ∙ h)
      (had q place d) (has_yours q e place d)
  indexed_at q false e place d h = had q place d (ap is_some (only q e place d ∙ sym (same (q, place) d)) ∙ h)

  pub indexed_only : IsIndexed both places
  indexed_only q place d h = indexed_at q (has_key keys q) refl place d h

-- ---- dots that were not seen
above_by : (n k : ℕ) (cloud b : Bool) → nat_le n k ≡ b → 1 ≤ n → (nat_le 1 n && (nat_le n k || cloud)) ≡ false → k < n
above_by n k cloud true e one fresh = let first : nat_le 1 n ≡ true = search rules in absurd (cc (first, e, fresh))
above_by n k cloud false e one fresh = leb-false n k e

pub above_seen : (seen : ContextValue) (d : DotValue) → 1 ≤ d.number → has seen d ≡ false → known_up_to seen.vector d.name < d.number
unfolding has
above_seen seen d one fresh = above_by d.number (known_up_to seen.vector d.name) (in_cloud seen.cloud d) (nat_le d.number (known_up_to seen.vector d.name))
    refl one fresh

-- ---- what is there
pub given_some : {V : Type 0} {Q : Type 0} (o : Option V) → IsSome o → ((v : V) → o ≡ Some v → Q) → Q
given_some None h f = absurd (cc h)
given_some (Some v) h f = f v refl

-- ---- the same of a live pair and a store that goes on from one that was joined in
pub opened_only : {S P H Hash : Type 0} (at : S → P → DotValue → Option H) (greater : H → H → H) (store base built : TrieMapValue Hash S)
    (own seen theirs : ContextValue) (pair : PairValue Hash S) (places : List PlaceValue)
    (touched : finite.FinMap bytes_cmp (Unit {0})) (keys : List (List ℕ)) → (store, own) ≡ pair → IsTouchedSince places touched (has seen) (has theirs) keys
    → IsIndexed (at_keys at store) places
    → Same (join greater (state_of (at_keys at) pair) (state_of (at_keys at) (base, seen))) (state_of (at_keys at) pair)
    → ((q : List ℕ) → finite.get touched q ≡ None → finite.get built.1 q ≡ finite.get base.1 q)
    → ChangesOnlyAt greater (at_keys at store) (has own) (at_keys at built) (has theirs) keys
opened_only at greater store base built own seen theirs pair places touched keys is since had below rest =
    let under = subst (λ p. Same (join greater (state_of (at_keys at) p) (state_of (at_keys at) (base, seen))) (state_of (at_keys at) p)) (sym is) below in
    changes_only greater (at_keys at store) (at_keys at base) (at_keys at built) (has own) (has seen) (has theirs) places touched keys since had under.at
    (λ q none. held_alike at built base q (rest q none))
