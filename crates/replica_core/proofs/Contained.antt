-- That a map has a key exactly where something stands at some field of it.
use Rattle.std.proofs.Common.{◌≡◌, ℕ, List, [], ◌∷◌, Bool, Option, Some, None, IsSome, IsTrue, is_some, cond, Bor, refl, sym, ◌∙◌, ap, subst}
use Rattle.std.specs.Prelude.{◌↔◌}
use Rattle.std.specs.BTreeMap.{is_at}
use Rattle.std.specs.FinMap as finite
use Rattle.std.specs.Map.{lookup, values_of}
use Rattle.std.specs.Option.{option_copied}
use Rattle.std.proofs.lemmas.List.Elements.{All-head}
use Rattle.causal_join.specs.OrMap.{ValuesValue, FieldsValue, fields_at}
use Rattle.dot_store.specs.Store.{HasNothing}
use Rattle.dot_store.specs.Stores.{at_values, at_stores, held_by}
use Rattle.dots.specs.Bytes.{bytes_cmp}
use Rattle.dots.specs.Dot.{DotValue}
use Rattle.hash_path.proofs.Words.{same_tied}
use Rattle.op_model.specs.Meaning.{MapState, HoldsKey}
use Rattle.op_model.specs.Place.{place_of}
use Rattle.prefix_digest.specs.MapOf.{IsInOrder, IsMapOf}
use Rattle.replica_core.proofs.WithinLive.{own_value}
use Rattle.sync_model.specs.Differ.{Held}

-- what is not empty holds something
value_there : (vs : ValuesValue) → ¬ HasNothing (at_values vs) → (dot : DotValue) × IsSome (at_values vs tt dot)
unfolding at_values
value_there [] filled = absurd (filled (λ place dot. refl))
value_there (v ∷ vs) filled = (v.0, own_value (v ∷ vs) v.0 v.1 (Rattle.std.proofs.Common.inl refl))

field_there : (fs : FieldsValue) → IsInOrder fs → ¬ HasNothing (fields_at fs) → (field : List ℕ) × (dot : DotValue) × IsSome (fields_at fs (field, tt) dot)
unfolding at_stores
field_there [] ordered filled = absurd (filled (λ place dot. refl))
field_there (f ∷ fs) ordered filled =
    let there = value_there f.1 (All-head (λ store. ¬ HasNothing (at_values store)) f.1 (values_of fs) ordered.filled) in (
      f.0,
      there.0,
      subst (λ b. IsSome (held_by at_values (cond b (Some f.1) (lookup (is_at (bytes_cmp f.0)) fs)) tt there.0))
          (sym (same_tied f.0 f.0 refl)) there.1,
    )

module _ (m : Held) (live : MapState) (mapped : IsMapOf m live) (key : List ℕ) where
  some_there : (o : Option FieldsValue) → finite.get m key ≡ o → IsSome o → HoldsKey live key
  some_there None e some = absurd cc
  some_there (Some fs) e some =
      let there = field_there fs (mapped.ordered key fs e) (mapped.filled key fs e) in
      (there.0, (there.1, subst IsSome (sym (ap (λ o. held_by fields_at o (there.0, tt) there.1) e) ∙ mapped.at (place_of key there.0) there.1) there.2))

  none_there : (o : Option FieldsValue) (field : List ℕ) (dot : DotValue) → IsSome (held_by fields_at o (field, tt) dot) → IsSome o
  none_there None field dot some = some
  none_there (Some fs) field dot some = refl

  pub contained : (found : Bool) → found ≡ is_some (finite.get m key) → IsTrue found ↔ HoldsKey live key
  contained found is = (
    (λ here. some_there (finite.get m key) refl (sym is ∙ here)),
    (λ holds. is ∙ none_there (finite.get m key) holds.0 holds.1.0 (subst IsSome (sym (mapped.at (place_of key holds.0) holds.1.0)) holds.1.1)),
  )

-- whether a look-up finds something is whether what it finds is there
pub copied_some : {T : Type 0} (o : Option (Bor T)) → is_some o ≡ is_some (option_copied o)
copied_some None = refl
copied_some (Some b) = refl
