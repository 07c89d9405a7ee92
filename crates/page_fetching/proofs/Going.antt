-- What was built goes on, key by key.
use Rattle.std.proofs.Common.{◌≡◌, ◌≢◌, ℕ, nat_eq, length, List, [], ◌∷◌, Bool, true, false, cond, Some, None, arith, eqb-true, refl, sym, ◌∙◌, ap, subst}
use Rattle.std.specs.Prelude.{Option, IsSome}
use Rattle.std.specs.Cmp.Lexicographic.{nat_list_cmp_total}
use Rattle.std.specs.Ordering.{eq_by_cmp}
use Rattle.std.specs.FinMap as finite
use Rattle.std.specs.FinMap.{get-insert, get-remove}
use Rattle.dots.specs.Bytes.{bytes_cmp}
use Rattle.causal_join.specs.OrMap.{FieldsValue}
use Rattle.sync_model.specs.Differ.{Held}
use Rattle.sync_model.specs.Fetch.{put_entry}
use Rattle.page_fetching.specs.Building.{KeySet, BuiltValue, GoesOn}

pub goes_on_itself : {Hash : Type 0} (b : BuiltValue Hash) → GoesOn b b
goes_on_itself b = record { hash = refl; touched = λ key h. h; rest = λ key h. refl }

not_some : (o : Option (Unit {0})) → ¬ IsSome o → o ≡ None
not_some None h = refl
not_some (Some u) h = absurd (h refl)

none_before : (o p : Option (Unit {0})) → (IsSome o → IsSome p) → p ≡ None → o ≡ None
none_before o p h none = not_some o (λ s. let there = subst IsSome none (h s) in absurd cc)

pub goes_further : {Hash : Type 0} (a b c : BuiltValue Hash) → GoesOn a b → GoesOn b c → GoesOn a c
goes_further a b c h g = record {
  hash = g.hash ∙ h.hash;
  touched = λ key s. g.touched key (h.touched key s);
  rest = λ key none. g.rest key none ∙ h.rest key (none_before (finite.get b.touched key) (finite.get c.touched key) (g.touched key) none);
}

module _ {Hash : Type 0} (old : BuiltValue Hash) (hash : Hash) (entries : Held) (touched : KeySet) (key : List ℕ) where
  -- one key is touched, and nothing changes at another
  pub touches : hash ≡ old.hash → touched ≡ finite.insert old.touched key tt
      → ((q : List ℕ) → eq_by_cmp bytes_cmp q key ≡ false → finite.get entries q ≡ finite.get old.entries q)
      → GoesOn old (record { hash = hash; entries = entries; touched = touched })
  touches same is elsewhere = record {
    hash = same;
    touched = λ q s. subst IsSome (sym (now q)) (more (eq_by_cmp bytes_cmp q key) (finite.get old.touched q) s);
    rest = λ q none. at q (eq_by_cmp bytes_cmp q key) refl (sym (now q) ∙ none);
  }
    where
      now : (q : List ℕ) → finite.get touched q ≡ cond (eq_by_cmp bytes_cmp q key) (Some tt) (finite.get old.touched q)
      now q = ap (λ t. finite.get t q) is ∙ get-insert nat_list_cmp_total old.touched key tt q

      more : (b : Bool) (o : Option (Unit {0})) → IsSome o → IsSome (cond b (Some tt) o)
      more true o s = refl
      more false o s = s

      at : (q : List ℕ) (b : Bool) → eq_by_cmp bytes_cmp q key ≡ b → cond b (Some tt) (finite.get old.touched q) ≡ None
          → finite.get entries q ≡ finite.get old.entries q
      at q true u e = absurd cc
      at q false u e = elsewhere q u

  pub removes : hash ≡ old.hash → touched ≡ finite.insert old.touched key tt → entries ≡ finite.remove old.entries key
      → GoesOn old (record { hash = hash; entries = entries; touched = touched })
  removes same is gone = touches same is (λ q off. ap (λ m. finite.get m q) gone ∙ get-remove nat_list_cmp_total old.entries key q
      ∙ ap (λ b. cond b None (finite.get old.entries q)) off)

  pub puts : (fields : FieldsValue) → hash ≡ old.hash → touched ≡ finite.insert old.touched key tt → entries ≡ finite.insert old.entries key fields
      → GoesOn old (record { hash = hash; entries = entries; touched = touched })
  puts fields same is put = touches same is (λ q off. ap (λ m. finite.get m q) put ∙ get-insert nat_list_cmp_total old.entries key fields q
      ∙ ap (λ b. cond b (Some fields) (finite.get old.entries q)) off)

pub nothing_put : (key : List ℕ) (fields : FieldsValue) (m : Held) → fields ≡ [] → m ≡ put_entry key fields m
nothing_put key [] m e = refl
nothing_put key (f ∷ fs) m e = absurd cc

pub something_put : (key : List ℕ) (fields : FieldsValue) (m n : Held) → fields ≢ [] → n ≡ finite.insert m key fields → n ≡ put_entry key fields m
something_put key [] m n e put = absurd (e refl)
something_put key (f ∷ fs) m n e put = put

pub is_nothing : (fields items : FieldsValue) (b : Bool) → items ≡ fields → b ≡ nat_eq (length items) 0 → b ≡ true → fields ≡ []
is_nothing fields [] b same test e = sym same
is_nothing fields (f ∷ fs) b same test e = let none = eqb-true (length (f ∷ fs)) 0 (sym test ∙ e) in absurd (omega (arith, none))

pub is_something : (fields items : FieldsValue) (b : Bool) → items ≡ fields → b ≡ nat_eq (length items) 0 → b ≡ false → fields ≢ []
is_something fields [] b same test e none = absurd cc
is_something fields (f ∷ fs) b same test e none = let both = same ∙ none in absurd cc
