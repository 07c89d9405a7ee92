-- What a hasher has taken in, part by part.
use Rattle.std.proofs.Common.{◌≡◌, ℕ, ◌+◌, ◌<◌, ◌≤◌, ◌/◌, ◌%◌, List, [], ◌∷◌, ◌++◌, length, take, get_or, map, sym, ap, ◌∙◌, subst, append_assoc, arith}
use Rattle.std.specs.List.{flat_map}
use Rattle.std.proofs.lemmas.List.{append-nil, take_more, take_all, flat_map_more, length-map}
use Rattle.std.proofs.lemmas.List.Folds.{flat_map-map}
use Rattle.std.specs.Int.{w16, to_be_bytes}
use Rattle.sha2.specs.Hashers.{Holds256}
use Rattle.sha2.specs.declared.Sha256.{Sha256}
use Rattle.wire_form.specs.Spelling.{number, counted}
use Rattle.prefix_digest.specs.Taking.{TakesBytes}

pub takes_both : (a b c : Sha256) (x y : List ℕ) → TakesBytes a b x → TakesBytes b c y → TakesBytes a c (x ++ y)
takes_both a b c x y p q = λ held h. subst (Holds256 c) (append_assoc held x y) (q (held ++ x) (p held h))

pub takes_same : (a b : Sha256) (x y : List ℕ) → x ≡ y → TakesBytes a b x → TakesBytes a b y
takes_same a b x y e p = subst (TakesBytes a b) e p

pub takes_none : (a : Sha256) → TakesBytes a a []
takes_none a = λ held h. subst (Holds256 a) (sym (append-nil held)) h

-- two bytes hold a number by what it is modulo 2 ^ 16
pub two_bytes : (n : ℕ) → to_be_bytes w16 (n % 65536) ≡ to_be_bytes w16 n
two_bytes n = λ i. high n i ∷ low n i ∷ []
  where
    high : (n : ℕ) → n % 65536 / 256 % 256 ≡ n / 256 % 256
    high n = omega arith

    low : (n : ℕ) → n % 65536 % 256 ≡ n % 256
    low n = omega arith

-- counted items, each told by another
pub counted_of : {X Y : Type 0} (item : Y → List ℕ) (told : X → Y) (xs : List X)
    → number (length xs) ++ flat_map (λ x. item (told x)) xs ≡ counted item (map told xs)
counted_of item told xs = λ i. number (sym (length-map xs told) i) ++ sym (flat_map-map item told xs) i

module _ {X : Type 0} (item : X → List ℕ) where
  -- an item more behind those that are held
  pub item_held : (b c : Sha256) (front : List ℕ) (xs : List X) (x : X) → Holds256 b (front ++ flat_map item xs) → TakesBytes b c (item x)
      → Holds256 c (front ++ flat_map item (xs ++ x ∷ []))
  item_held b c front xs x p q = subst (Holds256 c) (flat_map_more item front xs x) (q (front ++ flat_map item xs) p)

  -- no items, those that a loop has gone through and one more, and all of them
  pub none_taken : (a b : Sha256) (front : List ℕ) → TakesBytes a b front → TakesBytes a b (front ++ flat_map item [])
  none_taken a b front p = takes_same a b front (front ++ []) (sym (append-nil front)) p

  pub more_taken : (a b c : Sha256) (front : List ℕ) (xs : List X) (i : ℕ) (d : X) → TakesBytes a b (front ++ flat_map item (take i xs)) → i < length xs
      → TakesBytes b c (item (get_or xs i d))
      → TakesBytes a c (front ++ flat_map item (take (i + 1) xs))
  more_taken a b c front xs i d p h q =
      takes_same a c ((front ++ flat_map item (take i xs)) ++ item (get_or xs i d)) (front ++ flat_map item (take (i + 1) xs))
      (flat_map_more item front (take i xs) (get_or xs i d) ∙ ap (λ ys. front ++ flat_map item ys) (sym (take_more xs i d h)))
      (takes_both a b c (front ++ flat_map item (take i xs)) (item (get_or xs i d)) p q)

  pub next_taken : (a b c : Sha256) (front : List ℕ) (xs : List X) (i : ℕ) (x : X) → TakesBytes a b (front ++ flat_map item (take i xs)) → i < length xs
      → x ≡ get_or xs i x → TakesBytes b c (item x)
      → TakesBytes a c (front ++ flat_map item (take (i + 1) xs))
  next_taken a b c front xs i x p h is q = more_taken a b c front xs i x p h (takes_same b c (item x) (item (get_or xs i x)) (ap item is) q)

  pub all_taken : (a b : Sha256) (front : List ℕ) (xs : List X) (i : ℕ) → TakesBytes a b (front ++ flat_map item (take i xs)) → length xs ≤ i
      → TakesBytes a b (front ++ flat_map item xs)
  all_taken a b front xs i p h = takes_same a b (front ++ flat_map item (take i xs)) (front ++ flat_map item xs)
      (ap (λ ys. front ++ flat_map item ys) (take_all i xs h)) p
