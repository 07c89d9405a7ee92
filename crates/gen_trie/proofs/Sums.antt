-- The summaries of a branch's children, one after another.
use Rattle.std.proofs.Common.{◌≡◌, ◌↔◌, ℕ, suc, ◌-◌, ◌≤◌, List, [], ◌∷◌, ◌++◌, length, map, None, Some, arith, refl, sym, ◌∙◌, ap, subst}
use Rattle.std.specs.declared.option.Option.{Option}
use Rattle.std.specs.List.{All}
use Rattle.std.proofs.lemmas.List.Elements.{All-take}
use Rattle.std.proofs.Math.Seq.{take-append_seam}
use Rattle.std.proofs.lemmas.List.{append_assoc, append-nil, length-map, map-append}
use Rattle.hash_path.specs.Fan.{fan, Rise}
use Rattle.hash_path.specs.Map.{as_map, by_key, by_path}
use Rattle.hash_path.specs.Summary.{SummaryCalls, under_prefix, sums, summary_of, summary_at}
use Rattle.hash_path.proofs.Rising.{rise_short, Rise-sums}
use Rattle.hash_path.proofs.Summaries.{sums_append, summary_branch, summary_list, summary_there}
use Rattle.hash_path.proofs.Words.{key_in-word}
use Rattle.std.specs.FinMap as finite
use Rattle.hash_path.specs.Path.{indices}
use Rattle.hash_path.proofs.Absences.{none_exactly}
use Rattle.hash_path.proofs.Maps.{get-as_map}
use Rattle.hash_path.proofs.Walks.{by_path_is}
use Rattle.gen_trie.specs.Root.{root_entries, IsTrie}
use Rattle.std.specs.declared.sync.Arc.{Arc}
use Rattle.gen_trie.specs.declared.entry.Entry.{Entry}
use Rattle.gen_trie.specs.declared.node.Slot.{Slot}
use Rattle.gen_trie.specs.declared.node.Slot.TheVariants.{One}
use Rattle.gen_trie.specs.Shapes.{children, child, listed}

module _ {V M A : Type 0} (below : ℕ) (s : List (List ℕ × V) → Option M) where
  -- the summary of the last child goes in front of those behind it
  pub one_before : (slots others : List (Slot V M A)) (last : Slot V M A) (x : ℕ × M) (behind list : List (ℕ × M)) → slots ≡ others ++ last ∷ []
      → x.0 ≡ (child below last).0 → s (child below last).1 ≡ Some x.1 → list ≡ x ∷ behind
      → sums s (children below others) ++ list ≡ sums s (children below slots) ++ behind
  one_before slots others last x behind list is index sum ls =
      ap (λ l. sums s (children below others) ++ l) ls
      ∙ sym (append_assoc (sums s (children below others)) (x ∷ []) behind)
      ∙ ap (λ l. l ++ behind) (
      (λ t. sums s (children below others) ++ (index t, x.1) ∷ [])
      ∙ sym (sums_append s (children below others) (child below last) x.1 sum)
      ∙ ap (sums s) (sym (map-append (child below) others (last ∷ [])) ∙ ap (children below) (sym is))
      )

pub front_fits : {X : Type 0} (P : X → Type 0) (all front : List X) (last : X) → all ≡ front ++ last ∷ [] → All P all → All P front
front_fits P all front last is fits = subst (All P) (take-append_seam front (last ∷ []))
    (All-take P (length front) (front ++ last ∷ []) (subst (All P) is fits))

pub few_slots : {V M A : Type 0} (below : ℕ) (slots : List (Slot V M A)) → Rise 0 (children below slots) → length slots ≤ 32
few_slots below slots rise =
    let few = rise_short 0 (children below slots) (omega arith) rise in
    let same = length-map slots (child below) in
    omega (arith, few, same)

module _ {V M A : Type 0} (c : SummaryCalls V M) where
  pub of_children : (node : ℕ × List (List ℕ × V)) (below : ℕ) (slots found : List (Slot V M A)) (behind : List (ℕ × M)) (m : M)
      → node ≡ (suc below, fan (children below slots)) → Rise 0 (children below slots) → 2 ≤ length node.1
      → found ≡ slots → behind ≡ [] → m ≡ c.branch (sums (summary_of c below) (children below found) ++ behind) → summary_of c node.0 node.1 ≡ Some m
  of_children node below slots found behind m e rise several fs none ms =
      ap (λ n. summary_of c n.0 n.1) e
      ∙ summary_branch c below (children below slots) rise (subst (λ n. 2 ≤ length n.1) e several)
      ∙ ap (λ l. Some (c.branch l)) (sym (append-nil (sums (summary_of c below) (children below slots)))
      ∙ (λ t. sums (summary_of c below) (children below (sym fs t)) ++ sym none t))
      ∙ ap Some (sym ms)

  pub children_rise : (below : ℕ) (slots found : List (Slot V M A)) (behind : List (ℕ × M)) → Rise 0 (children below slots) → found ≡ slots → behind ≡ []
      → Rise 0 (sums (summary_of c below) (children below found) ++ behind)
  children_rise below slots found behind rise fs none =
      subst (Rise 0) (sym ((λ t. sums (summary_of c below) (children below (fs t)) ++ none t) ∙ append-nil (sums (summary_of c below) (children below slots))))
      (Rise-sums (summary_of c below) 0 (children below slots) rise)

  pub one_key : (below : ℕ) (slot : Slot V M A) (i : ℕ) (e : Arc (Entry V A) A) (k : List ℕ) (v : V) (m : M) → slot ≡ One i e → k ≡ e.value.key
      → v ≡ e.value.value → m ≡ c.leaf k v
      → summary_of c below (child below slot).1 ≡ Some m
  one_key below slot i e k v m is ks vs ms =
      ap (λ s. summary_of c below (child below s).1) is
      ∙ ap (λ x. Some (c.leaf x e.value.value)) (key_in-word below e.value.hash e.value.key)
      ∙ (λ t. Some (c.leaf (sym ks t) (sym vs t))) ∙ ap Some (sym ms)

  pub keys_listed : (es : List (Arc (Entry V A) A)) → by_key 0 (listed es) ≡ map (λ e. (e.value.key, e.value.value)) es
  keys_listed [] = refl
  keys_listed (e ∷ es) = ap (λ l. (e.value.key, e.value.value) ∷ l) (keys_listed es)

  pub of_keys : (node : ℕ × List (List ℕ × V)) (es found : List (Arc (Entry V A) A)) (m : M) → node ≡ (0, listed es) → 2 ≤ length node.1 → found ≡ es
      → m ≡ c.list (map (λ e. (e.value.key, e.value.value)) found) → summary_of c node.0 node.1 ≡ Some m
  of_keys node es found m e h f ms =
      ap (λ n. summary_of c n.0 n.1) e ∙ summary_list c (listed es) (subst (λ n. 2 ≤ length n.1) e h)
      ∙ ap (λ l. Some (c.list l)) (keys_listed es ∙ ap (map (λ e. (e.value.key, e.value.value))) (sym f)) ∙ ap Some (sym ms)

-- ---- at a prefix

module _ {V M A : Type 0} (c : SummaryCalls V M) (slot : Slot V M A) (prefix : List ℕ) where
  pub none_there : length prefix ≤ 7 → under_prefix prefix (child 7 slot).1 ≡ [] → None ≡ summary_at c prefix 7 (child 7 slot).1
  none_there short none = sym (summary_there c prefix 7 (child 7 slot).1 short ∙ ap (summary_of c (7 - length prefix)) none)

  pub some_there : (found : Slot V M A) (height : ℕ) (m : M) → length prefix ≤ 7 → height ≡ 7 - length prefix
      → under_prefix prefix (child 7 slot).1 ≡ (child (7 - length prefix) found).1 → summary_of c height (child height found).1 ≡ Some m
      → Some m ≡ summary_at c prefix 7 (child 7 slot).1
  some_there found height m short h is so =
      sym (summary_there c prefix 7 (child 7 slot).1 short ∙ ap (summary_of c (7 - length prefix)) is ∙ ap (λ k. summary_of c k (child k found).1) (sym h) ∙ so)

-- ---- at the root of a trie

module _ {V M A : Type 0} (c : SummaryCalls V M) (f : List ℕ → ℕ) (root : Option (Slot V M A)) (count : ℕ) (trie : IsTrie f root count) where
  pub at_root : (prefix : List ℕ) → summary_at c prefix 7 (root_entries root) ≡ summary_at c prefix 7 (by_path f (as_map (root_entries root)))
  at_root prefix = ap (summary_at c prefix 7) (sym (by_path_is f (root_entries root) trie.hashed (let r = trie.root_is in r.sorted)))

  -- no summary is there exactly where no key's path begins with the prefix
  pub none_at : (prefix : List ℕ) (r : Option M) → length prefix ≤ 7 → r ≡ summary_at c prefix 7 (root_entries root)
      → (r ≡ None) ↔ ((key : List ℕ) → indices (length prefix) (f key) ≡ prefix → finite.get (as_map (root_entries root)) key ≡ None)
  none_at prefix r short so =
      let exactly = none_exactly c f prefix (root_entries root) short trie.hashed in
      (λ e. exactly.0 (sym so ∙ e), λ all. so ∙ exactly.1 all)

module _ {V M A : Type 0} (f : List ℕ → ℕ) (root : Option (Slot V M A)) where
  pub none_nowhere : (prefix : List ℕ) → root ≡ None → (◌≡◌ {A = Option M} None None) ↔
      ((key : List ℕ) → indices (length prefix) (f key) ≡ prefix → finite.get (as_map (root_entries root)) key ≡ None)
  none_nowhere prefix e = (λ same key covers. ap (λ r. finite.get (as_map (root_entries r)) key) e ∙ get-as_map f key [] tt, λ all. refl)
