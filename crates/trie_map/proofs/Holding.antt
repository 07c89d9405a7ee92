-- What a map kept as a trie holds, key by key.
use Rattle.std.proofs.Common.{◌≡◌, ℕ, List, [], ◌∷◌, length, cond, Option, Some, None, refl, sym, ◌∙◌, ap}
use Rattle.std.specs.Prelude.{IsSome, is_some}
use Rattle.std.specs.FinMap as finite
use Rattle.std.specs.FinMap.{empty_of_len, get-empty, get-entries, len-entries}
use Rattle.std.specs.FinMap.Entries.{find}
use Rattle.dots.specs.Bytes.{bytes_cmp}
use Rattle.dots.specs.Dot.{DotValue}
use Rattle.dot_store.specs.Store.{HasNothing, HoldsDot, HoldsSame}
use Rattle.dot_store.specs.Stores.{held_by}
use Rattle.dot_store.proofs.Stores.{store_from_held, held_at_some}
use Rattle.hash_path.proofs.Words.{same_tied}
use Rattle.trie_map.specs.Keyed.{TrieMapValue, at_keys, NoStoreIsEmpty}

module _ {S P H : Type 0} (at : S → P → DotValue → Option H) where
  held_none : (o : Option S) (place : P) (d : DotValue) → o ≡ None → held_by at o place d ≡ None
  held_none o place d e = rw e refl

  -- at a key with a store, the store's things are held
  pub held_of : {Hash : Type 0} (map : TrieMapValue Hash S) (key : List ℕ) (store : S) → finite.get map.1 key ≡ Some store → (place : P) (d : DotValue)
      → at_keys at map (key, place) d ≡ at store place d
  unfolding at_keys
  held_of map key store is place d = held_at_some at (finite.get map.1 key) store place d is

  pub holds_of : {Hash : Type 0} (map : TrieMapValue Hash S) (key : List ℕ) (store : S) → finite.get map.1 key ≡ Some store → (d : DotValue)
      → HoldsDot (at store) d → HoldsDot (at_keys at map) d
  holds_of map key store is d held = ((key, held.0), ap is_some (held_of map key store is held.0 d) ∙ held.1)

  -- where something is held, there is a store that holds it
  pub store_of : {Hash : Type 0} (map : TrieMapValue Hash S) (place : List ℕ × P) (d : DotValue) → IsSome (at_keys at map place d) → (store : S)
      × (finite.get map.1 place.0 ≡ Some store) × IsSome (at store place.1 d)
  unfolding at_keys
  store_of map place d h =
      let there = store_from_held at (finite.get map.1 place.0) place.1 d h in
      (there.0, there.1, ap is_some (sym (held_at_some at (finite.get map.1 place.0) there.0 place.1 d there.1)) ∙ h)

  absent_by : (o : Option S) (place : P) (d : DotValue) → ((s : S) → o ≡ Some s → at s place d ≡ None) → held_by at o place d ≡ None
  absent_by None place d h = refl
  absent_by (Some s) place d h = h s refl

  -- what no store holds is not held
  pub absent_of : {Hash : Type 0} (map : TrieMapValue Hash S) (d : DotValue)
      → ((q : List ℕ) (s : S) → finite.get map.1 q ≡ Some s → (place : P) → at s place d ≡ None) → (place : List ℕ × P) → at_keys at map place d ≡ None
  unfolding at_keys
  absent_of map d all place = absent_by (finite.get map.1 place.0) place.1 d (λ s is. all place.0 s is place.1)

  -- ---- a map with no key holds nothing, and one that holds nothing has no key
  pub nothing_of_none : {Hash : Type 0} (map : TrieMapValue Hash S) → finite.len map.1 ≡ 0 → HasNothing (at_keys at map)
  unfolding at_keys
  nothing_of_none map none place d = held_none (finite.get map.1 place.0) place.1 d
      (ap (λ m. finite.get m place.0) (empty_of_len map.1 none) ∙ get-empty bytes_cmp place.0)

  pub nothing_of_empty : {Hash : Type 0} (hash : Hash) (map : TrieMapValue Hash S) → map ≡ (hash, finite.empty) → HasNothing (at_keys at map)
  unfolding at_keys
  nothing_of_empty hash map is place d = held_none (finite.get map.1 place.0) place.1 d (ap (λ m. finite.get m.1 place.0) is ∙ get-empty bytes_cmp place.0)

  first_found : (e : List ℕ × S) (es : List (List ℕ × S)) → find bytes_cmp e.0 (e ∷ es) ≡ Some e.1
  first_found e es = ap (λ b. cond b (Some e.1) (find bytes_cmp e.0 es)) (same_tied e.0 e.0 refl)

  none_by : {Hash : Type 0} (map : TrieMapValue Hash S) (es : List (List ℕ × S)) → finite.entries map.1 ≡ es → NoStoreIsEmpty at map.1
      → HasNothing (at_keys at map) → length es ≡ 0
  none_by map [] is filled h = refl
  none_by map (e ∷ es) is filled h =
      let found : finite.get map.1 e.0 ≡ Some e.1 = get-entries map.1 e.0 ∙ ap (find bytes_cmp e.0) is ∙ first_found e es in
      absurd (filled e.0 e.1 found (λ place d. sym (held_of map e.0 e.1 found place d) ∙ h (e.0, place) d))

  pub none_of_nothing : {Hash : Type 0} (map : TrieMapValue Hash S) → NoStoreIsEmpty at map.1 → HasNothing (at_keys at map) → finite.len map.1 ≡ 0
  none_of_nothing map filled h = len-entries map.1 ∙ none_by map (finite.entries map.1) refl filled h

  -- ---- one map within another
  abbrev pub IsHeldBy : finite.FinMap bytes_cmp S → finite.FinMap bytes_cmp S → List ℕ → Type 0
  IsHeldBy mine yours q = (store : S) → finite.get mine q ≡ Some store → HoldsSame (at store) (held_by at (finite.get yours q))

  pub held_by_here : (mine yours : finite.FinMap bytes_cmp S) (q : List ℕ) (store other : S) → finite.get mine q ≡ Some store → finite.get yours q ≡ Some other
      → HoldsSame (at store) (at other) → IsHeldBy mine yours q
  held_by_here mine yours q store other is found same s e place d =
      let one : store ≡ s = cc in
      ap (λ x. at x place d) (sym one) ∙ same place d ∙ sym (held_at_some at (finite.get yours q) other place d found)

  pub not_held_by : (mine yours : finite.FinMap bytes_cmp S) (q : List ℕ) (store other : S) → finite.get mine q ≡ Some store → finite.get yours q ≡ Some other
      → IsHeldBy mine yours q → HoldsSame (at store) (at other)
  not_held_by mine yours q store other is found held place d = held store is place d ∙ held_at_some at (finite.get yours q) other place d found

  -- a store that is not empty is not held where there is none
  pub not_held_where_none : (mine yours : finite.FinMap bytes_cmp S) (q : List ℕ) (store : S) → finite.get mine q ≡ Some store → NoStoreIsEmpty at mine
      → finite.get yours q ≡ None → IsHeldBy mine yours q → ⊥
  not_held_where_none mine yours q store is filled none held =
      filled q store is (λ place d. held store is place d ∙ held_none (finite.get yours q) place d none)

  -- two maps of which each is within the other hold the same
  same_by : (mine yours : Option S) → ((s : S) → mine ≡ Some s → HoldsSame (at s) (held_by at yours))
      → ((s : S) → yours ≡ Some s → HoldsSame (at s) (held_by at mine)) → HoldsSame (held_by at mine) (held_by at yours)
  same_by (Some s) yours there back = there s refl
  same_by None (Some s) there back = λ place d. sym (back s refl place d)
  same_by None None there back = λ place d. refl

  pub same_of_within : {Hash : Type 0} (mine yours : TrieMapValue Hash S) → ((q : List ℕ) → IsHeldBy mine.1 yours.1 q)
      → ((q : List ℕ) → IsHeldBy yours.1 mine.1 q) → HoldsSame (at_keys at mine) (at_keys at yours)
  unfolding at_keys
  same_of_within mine yours there back place d = same_by (finite.get mine.1 place.0) (finite.get yours.1 place.0) (there place.0) (back place.0) place.1 d

  -- and maps that hold the same are within each other
  pub within_of_same : {Hash : Type 0} (mine yours : TrieMapValue Hash S) → HoldsSame (at_keys at mine) (at_keys at yours) → (q : List ℕ)
      → IsHeldBy mine.1 yours.1 q
  unfolding at_keys
  within_of_same mine yours same q s is place d = sym (held_at_some at (finite.get mine.1 q) s place d is) ∙ same (q, place) d
