-- Each read of a replica comes to an outcome: what it holds is finite, and the dots that it knows are numbered.
use Rattle.std.proofs.Common.{◌≡◌, ℕ, List, [], length, refl, sym, ◌∙◌, subst}
use Rattle.op_model.specs.Meaning.{MapState, Stands, StandsWithin, HoldsField, HoldsKey}
use Rattle.op_model.specs.Operation.{has}
use Rattle.op_model.specs.Place.{Place, place_of}
use Rattle.op_model.specs.State.{IsInside}
use Rattle.prefix_digest.specs.Page.{digest_at}
use Rattle.replica_core.specs.Reading.{Lists}
use Rattle.replica_model.proofs.Finite.{IsFinite, finite_map, map_stands}
use Rattle.replica_model.proofs.Puts.{all_put}
use Rattle.trace_words.specs.Text.{values_text, fields_text, map_text, size_text, context_text, digest_text}
use Rattle.trace_world.specs.Outcome.{CommandOutcome, Done, ReadsValues, ReadsFields, ReadsKeys, ReadsSize, ReadsContext, ReadsDigest}
use Rattle.trace_texts.specs.Numbered.{IsNumbered}
use Rattle.trace_texts.specs.Reads.{IsRead, ReplicasAreRead}
use Rattle.trace_texts.proofs.Canonical.{compressed, compressed_canonical, compressed_has}
use Rattle.trace_texts.proofs.Listing.{labelled, labels_of, each_labelled, values_at, values_listed, values_within, values_within_listed, fields_at}
use Rattle.trace_texts.proofs.Listing.{fields_listed, keys_there, keys_listed}
use Rattle.trace_texts.proofs.Numbered.{known_numbered}

module _ (hash_of : List ℕ → ℕ) (p : MapState) (is : IsFinite p) (inside : IsInside p) (numbered : IsNumbered p.has) where
  values : (place : Place) → (outcome : CommandOutcome) × ReadsValues place p outcome
  values place = (Done (values_text (values_at p is inside place)) [], (values_at p is inside place, values_listed p is inside place, refl))

  fields : (key : List ℕ) → (outcome : CommandOutcome) × ReadsFields key p outcome
  fields key =
      let at : List ℕ → List (List ℕ) = λ field. values_at p is inside (place_of key field) in
      let entries = labelled at (fields_at p is inside key) in (
        Done (fields_text entries) [],
        (
          entries,
          subst (Lists (HoldsField p key)) (sym (labels_of at (fields_at p is inside key))) (fields_listed p is inside key),
          each_labelled (λ field found. Lists (Stands p (place_of key field)) found) at (fields_at p is inside key)
              (λ field. values_listed p is inside (place_of key field)),
          refl,
        ),
      )

  keys : (outcome : CommandOutcome) × ReadsKeys p outcome
  keys =
      let entries = labelled (values_within p is inside) (keys_there p is inside) in (
        Done (map_text entries) [],
        (
          entries,
          subst (Lists (HoldsKey p)) (sym (labels_of (values_within p is inside) (keys_there p is inside))) (keys_listed p is inside),
          each_labelled (λ key found. Lists (StandsWithin p key) found) (values_within p is inside) (keys_there p is inside)
              (values_within_listed p is inside),
          refl,
        ),
      )

  size : (outcome : CommandOutcome) × ReadsSize p outcome
  size = (Done (size_text (length (keys_there p is inside))) [], (keys_there p is inside, keys_listed p is inside, refl))

  knows : p.has ≡ has is.dots
  knows i dot = is.knows dot i

  context_of : (outcome : CommandOutcome) × ReadsContext p outcome
  context_of =
      let few = subst IsNumbered knows numbered in
      let c = compressed is.dots in (
        Done (context_text c.vector c.cloud) [],
        (c, compressed_canonical is.dots few, (λ i dot. compressed_has is.dots few dot i) ∙ sym knows, refl),
      )

  digest : (outcome : CommandOutcome) × ReadsDigest hash_of p outcome
  digest = (Done (digest_text (digest_at hash_of (finite_map p is inside) [])) [], (finite_map p is inside, map_stands p is inside, refl))

  all_read : IsRead hash_of p
  all_read = record { values = values; fields = fields; keys = keys; size = size; context = context_of; digest = digest }

pub replicas_read : ReplicasAreRead
replicas_read hash_of events w runs name =
    let live = (all_put hash_of events w runs).1.live name in
    all_read hash_of (w.replica name).live live.is_finite live.inside (known_numbered hash_of events w runs name)
