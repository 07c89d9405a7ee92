-- Where digests are equal and nothing clashes, no key is changed.
use Rattle.std.proofs.Common.{◌≡◌, ◌⊎◌, inl, inr, ℕ, ◌≤◌, List, [], ◌∷◌, length, true, Some, None, refl, sym, subst}
use Rattle.std.specs.Prelude.{Option}
use Rattle.std.specs.Option.{option_map}
use Rattle.std.specs.List.{Contains}
use Rattle.std.specs.FinMap as finite
use Rattle.std.proofs.lemmas.Option.{same_Some}
use Rattle.dots.specs.Dot.{DotValue}
use Rattle.sha2.specs.Sha256.{sha256}
use Rattle.dot_store.specs.Store.{HoldsSame}
use Rattle.hash_path.specs.Word.{begins}
use Rattle.hash_path.specs.Map.{path}
use Rattle.causal_join.specs.OrMap.{ValuesValue, FieldsValue, fields_at}
use Rattle.wire_form.specs.Page.{PageValue}
use Rattle.prefix_digest.specs.Page.{named_fields, page_at, digest_of, digest_at}
use Rattle.sync_model.specs.Differ.{Held}
use Rattle.sync_model.specs.Laws.{HoldsValue, NoClash}
use Rattle.sync_model.proofs.Alike.{names_at, same_names}
use Rattle.sync_model.proofs.Filling.{EachValue, EachField}
use Rattle.sync_model.proofs.Keeping.{fields_same}
use Rattle.sync_model.proofs.Members.{In, Contains-In, In-Contains}
use Rattle.map_changes.specs.Changes.{AreSame, IsChanged}

module _ (P : List ℕ → Type 0) where
  each_value : (vs : ValuesValue) → ((d : DotValue) (v : List ℕ) → Contains vs (d, v) → P v) → EachValue P vs
  each_value [] all = tt
  each_value (x ∷ vs) all = (
    all x.0 x.1 (Contains-In (x ∷ vs) x (inl refl)),
    each_value vs (λ d v h. all d v (Contains-In (x ∷ vs) (d, v) (inr (In-Contains vs (d, v) h)))),
  )

  each_field : (fs : FieldsValue) → ((field : List ℕ) (vs : ValuesValue) → Contains fs (field, vs) → EachValue P vs) → EachField P fs
  each_field [] all = tt
  each_field (x ∷ fs) all = (
    all x.0 x.1 (Contains-In (x ∷ fs) x (inl refl)),
    each_field fs (λ f vs h. all f vs (Contains-In (x ∷ fs) (f, vs) (inr (In-Contains fs (f, vs) h)))),
  )

each_held : (m : Held) (key : List ℕ) (fs : FieldsValue) → finite.get m key ≡ Some fs → EachField (HoldsValue m) fs
each_held m key fs e = each_field (HoldsValue m) fs (λ field vs h. each_value (HoldsValue m) vs (λ d v g. (key, fs, e, (field, vs, h, (d, g)))))

pub same_fields : (fs gs : FieldsValue) → fs ≡ gs → HoldsSame (fields_at fs) (fields_at gs)
same_fields fs gs e = subst (λ x. HoldsSame (fields_at fs) (fields_at x)) e (λ place dot. refl)

module _ (hash_of : List ℕ → ℕ) (older newer : Held) (no_clash : NoClash hash_of older newer []) where
  pages_apart : (p q : List ℕ) (a b : PageValue) → page_at hash_of older p ≡ Some a → page_at hash_of newer q ≡ Some b → digest_of a ≡ digest_of b → a ≡ b
  pages_apart p q a b x y e = no_clash.pages a b (inl (inl (p, x))) (inl (inr (q, y))) e

  values_apart : (a b : List ℕ) → HoldsValue older a → HoldsValue newer b → sha256 a ≡ sha256 b → a ≡ b
  values_apart a b x y e = no_clash.values a b (inl (inl x)) (inl (inr y)) e

  same_by_names : (key : List ℕ) → names_at older key ≡ names_at newer key → AreSame (finite.get older key) (finite.get newer key)
  same_by_names key e = step (finite.get older key) (finite.get newer key) refl refl e
    where
      step : (a b : Option FieldsValue) → finite.get older key ≡ a → finite.get newer key ≡ b → option_map named_fields a ≡ option_map named_fields b
          → AreSame a b
      step None None x y s = tt
      step None (Some gs) x y s = absurd cc
      step (Some fs) None x y s = absurd cc
      step (Some fs) (Some gs) x y s =
          same_fields fs gs (fields_same (HoldsValue older) (HoldsValue newer) values_apart fs gs (each_held older key fs x) (each_held newer key gs y)
          (same_Some (named_fields fs) (named_fields gs) s))

  -- a changed key is under no prefix at which the digests are equal
  pub not_changed : (p : List ℕ) → length p ≤ 7 → digest_at hash_of older p ≡ digest_at hash_of newer p
      → (key : List ℕ) → begins p (path hash_of key) ≡ true → IsChanged older newer key → ⊥
  not_changed p short e key under differs = differs (same_by_names key (same_names hash_of older newer pages_apart p short e key under))

-- what is the same is so from both sides
pub same_back : (a b : Option FieldsValue) → AreSame a b → AreSame b a
same_back None None h = tt
same_back None (Some b) h = h
same_back (Some a) None h = h
same_back (Some a) (Some b) h = λ place dot. sym (h place dot)

pub changed_back : (older newer : Held) (key : List ℕ) → IsChanged older newer key → IsChanged newer older key
changed_back older newer key h = λ same. h (same_back (finite.get newer key) (finite.get older key) same)

-- what is changed is there on one side
pub on_a_side : (older newer : Held) (key : List ℕ) → IsChanged older newer key
    → ((fs : FieldsValue) × (finite.get older key ≡ Some fs)) ⊎ ((fs : FieldsValue) × (finite.get newer key ≡ Some fs))
on_a_side older newer key h = step (finite.get older key) (finite.get newer key) refl refl h
  where
    step : (a b : Option FieldsValue) → finite.get older key ≡ a → finite.get newer key ≡ b → ¬ AreSame a b
        → ((fs : FieldsValue) × (finite.get older key ≡ Some fs)) ⊎ ((fs : FieldsValue) × (finite.get newer key ≡ Some fs))
    step None None x y h = absurd (h tt)
    step (Some fs) b x y h = inl (fs, x)
    step None (Some gs) x y h = inr (gs, y)
