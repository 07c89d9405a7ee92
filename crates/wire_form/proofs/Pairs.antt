-- One field after another.
use Rattle.std.proofs.Common.{ℕ, List, ◌++◌, sym, ap, ◌∙◌, append_assoc}
use Rattle.wire_form.specs.Spelling.{pair, IsPair, Begins, HasNoSpelling}
use Rattle.wire_form.specs.Unique.{IsUnique}

module _ {X Y : Type 0} (first : X → List ℕ) (First : X → Type 0) (second : Y → List ℕ) (Second : Y → Type 0) where
  pub pair_begins : (bytes : List ℕ) (x : X) (rest : List ℕ) (y : Y) (end : List ℕ) → Begins first First bytes x rest → Begins second Second rest y end
      → Begins (pair first second) (IsPair First Second) bytes (x, y) end
  pair_begins bytes x rest y end p q = record {
    fits = (p.fits, q.fits);
    parts = p.parts ∙ ap (λ (t : List ℕ). first x ++ t) q.parts ∙ sym (append_assoc (first x) (second y) end);
  }

  pub none_first : (bytes : List ℕ) → HasNoSpelling first First bytes → HasNoSpelling (pair first second) (IsPair First Second) bytes
  none_first bytes none p rest h = none p.0 (second p.1 ++ rest) (record { fits = h.fits.0; parts = h.parts ∙ append_assoc (first p.0) (second p.1) rest })

  pub none_second : IsUnique first First → (bytes : List ℕ) (x : X) (rest : List ℕ) → Begins first First bytes x rest → HasNoSpelling second Second rest
      → HasNoSpelling (pair first second) (IsPair First Second) bytes
  none_second one bytes x rest read none p end h =
      let same = one x p.0 rest (second p.1 ++ end) read.fits h.fits.0 (sym read.parts ∙ h.parts ∙ append_assoc (first p.0) (second p.1) end) in
      none p.1 end (record { fits = h.fits.1; parts = same.1 })
