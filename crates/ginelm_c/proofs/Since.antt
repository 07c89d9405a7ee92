-- What changed between two snapshots, by the maps that they are stored as: over plain variables.
use Rattle.std.proofs.Common.{◌≡◌, ℕ, List, [], Contains, refl, subst}
use Rattle.std.specs.FinMap as finite
use Rattle.causal_join.specs.OrMap.{FieldsValue}
use Rattle.dots.specs.Bytes.{bytes_cmp}
use Rattle.hash_path.specs.Fnv1a.{fnv1a}
use Rattle.op_model.specs.Shown.{IsAscending}
use Rattle.sync_model.specs.Laws.{NoClash}
use Rattle.map_changes.specs.Changes.{IsChanged}
use Rattle.ginelm_c.specs.Snapshots.{TellsSince}
use Rattle.ginelm_c.specs.Texts.{shown}
use Rattle.ginelm_c.specs.declared.snapshot.Snapshot.{Snapshot}
use Rattle.ginelm_c.specs.declared.texts.Texts.{Texts}

abbrev Map : Type 0
Map = finite.FinMap bytes_cmp FieldsValue

-- the keys are some at which the maps differ, and unless pages or values clash all
abbrev Tells : Map → Map → List (List ℕ) → Type 0
Tells m n keys = ((key : List ℕ) → Contains keys key → IsChanged m n key) × (NoClash fnv1a m n [] → (key : List ℕ) → IsChanged m n key → Contains keys key)

pub tells_since : (older s : Snapshot) (texts : Texts) (m n : Map) → m ≡ older.store.1 → n ≡ s.store.1 → IsAscending (shown texts)
    → ((key : List ℕ) → Contains (shown texts) key → IsChanged m n key)
    → (NoClash fnv1a m n [] → (key : List ℕ) → IsChanged m n key → Contains (shown texts) key)
    → TellsSince older s (record { store = s.store; texts = texts })
tells_since older s texts m n from to ascending changed all =
    let told : Tells older.store.1 s.store.1 (shown texts) = subst (λ a. Tells a s.store.1 (shown texts)) from
    (subst (λ b. Tells m b (shown texts)) to (changed, all)) in
    record { same = refl; ascending = ascending; changed = told.0; all = told.1 }
