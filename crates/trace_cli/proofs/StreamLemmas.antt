-- Writes and reads one after another, over plain variables.
use Rattle.std.proofs.Common.{Bool, true, false, ◌≢◌, ◌==◌, ◌&&◌, ◌⊎◌, inl, inr, ◌≡◌, ℕ, List, [], ◌++◌, Option, Some, None, refl, ap, sym, ◌∙◌, append_assoc}
use Rattle.std.proofs.Common.{take, ◌≤◌, length}
use Rattle.std.proofs.lemmas.List.{append-nil, take-append-drop}
use Rattle.std.specs.Io.KnownBytes.{Appends, Consumes, Keeps}
use Rattle.std.proofs.lemmas.Bool.Decides.{eqb_tells}
use Rattle.std.specs.List.{between}
use Rattle.std.proofs.lemmas.Slice.{between_to_end}
use Rattle.trace_cli.specs.Streams.{Written}

pub Appends-nothing : (known : Option (List ℕ)) → Appends known known []
Appends-nothing None = tt
Appends-nothing (Some xs) = sym (append-nil xs)

pub Appends-kept : (old new : Option (List ℕ)) → Keeps old new → Appends old new []
Appends-kept None new kept = tt
Appends-kept (Some xs) None kept = absurd kept
Appends-kept (Some xs) (Some ys) kept = kept ∙ sym (append-nil xs)

pub Appends-trans : (old mid new : Option (List ℕ)) (t u : List ℕ) → Appends old mid t → Appends mid new u → Appends old new (t ++ u)
Appends-trans None mid new t u first then = tt
Appends-trans (Some xs) None new t u first then = absurd first
Appends-trans (Some xs) (Some ys) None t u first then = absurd then
Appends-trans (Some xs) (Some ys) (Some zs) t u first then = then ∙ (ap (λ w. w ++ u) first ∙ append_assoc xs t u)

pub Consumes-nothing : (known : Option (List ℕ)) → Consumes known known []
Consumes-nothing None = tt
Consumes-nothing (Some xs) = refl

pub Consumes-kept : (old new : Option (List ℕ)) → Keeps old new → Consumes old new []
Consumes-kept None new kept = tt
Consumes-kept (Some xs) None kept = absurd kept
Consumes-kept (Some xs) (Some ys) kept = sym kept

pub Keeps-itself : (known : Option (List ℕ)) → Keeps known known
Keeps-itself None = tt
Keeps-itself (Some xs) = refl

pub Consumes-trans : (old mid new : Option (List ℕ)) (t u : List ℕ) → Consumes old mid t → Consumes mid new u → Consumes old new (t ++ u)
Consumes-trans None mid new t u first then = tt
Consumes-trans (Some xs) None new t u first then = absurd first
Consumes-trans (Some xs) (Some ys) None t u first then = absurd then
Consumes-trans (Some xs) (Some ys) (Some zs) t u first then = first ∙ (ap (λ w. t ++ w) then ∙ sym (append_assoc t u zs))

-- one write of some of the rest, after what was written of the text
pub Written-more : (old mid new : Option (List ℕ)) (text done rest : List ℕ) (count len : ℕ)
    → Appends old mid done → text ≡ done ++ rest → Appends mid new (take count rest) → length rest ≤ len
    → Written old new (λ part. text ≡ part ++ between count len rest)
Written-more old mid new text done rest count len first parts then within = (
  done ++ take count rest,
  Appends-trans old mid new done (take count rest) first then,
  parts ∙ (ap (λ w. done ++ w) (sym (take-append-drop count rest) ∙ ap (λ w. take count rest ++ w) (sym (between_to_end rest count len within)))
      ∙ sym (append_assoc done (take count rest) (between count len rest))),
)

-- the test that fails a write that took nothing, at one that took a byte
pub took_some : (count : ℕ) (b : Bool) → count ≢ 0 → ((count == 0) && b) ≡ false
took_some count b some = ap (λ none. none && b) (by (eqb_tells count 0))
  where
    by : ((count == 0) ≡ true) × (count ≡ 0) ⊎ ((count == 0) ≡ false) × (count ≢ 0) → (count == 0) ≡ false
    by (inl (_, none)) = absurd (some none)
    by (inr (is, _)) = is
