-- Bytes that are read and written one part after the other.
use lib.ListN.{get_or}
use Rattle.std.proofs.Common.{◌≡◌, ℕ, List, [], ◌∷◌, ◌++◌, length, refl, Option, Some, None, Ok, Err, ◌+◌, OnOk, IfOk, sym, ap, ◌∙◌, subst, arith, append_assoc}
use Rattle.std.specs.Int.{to_be_bytes, w32, w64}
use Rattle.std.specs.Io.KnownBytes.{Appends, Consumes, Keeps}
use Rattle.std.specs.declared.result.Result.{Result}
use Rattle.node_threads.specs.Frames.{addressed, framed}

pub consumes_then : (a b c : Option (List ℕ)) (xs ys : List ℕ) → Consumes a b xs → Consumes b c ys → Consumes a c (xs ++ ys)
consumes_then None b c xs ys p q = tt
consumes_then (Some us) None c xs ys p q = absurd p
consumes_then (Some us) (Some vs) None xs ys p q = absurd q
consumes_then (Some us) (Some vs) (Some ws) xs ys p q = p ∙ (ap (λ zs. xs ++ zs) q ∙ sym (append_assoc xs ys ws))

pub appends_then : (a b c : Option (List ℕ)) (xs ys : List ℕ) → Appends a b xs → Appends b c ys → Appends a c (xs ++ ys)
appends_then None b c xs ys p q = tt
appends_then (Some us) None c xs ys p q = absurd p
appends_then (Some us) (Some vs) None xs ys p q = absurd q
appends_then (Some us) (Some vs) (Some ws) xs ys p q = q ∙ (ap (λ zs. zs ++ ys) p ∙ append_assoc us xs ys)

pub appends_kept : (a b c : Option (List ℕ)) (xs : List ℕ) → Appends a b xs → Keeps b c → Appends a c xs
appends_kept None b c xs p q = tt
appends_kept (Some us) None c xs p q = absurd p
appends_kept (Some us) (Some vs) None xs p q = absurd q
appends_kept (Some us) (Some vs) (Some ws) xs p q = q ∙ p

-- three bytes are the first, the second and the third
pub of_three : (xs : List ℕ) → length xs ≡ 3 → xs ≡ get_or xs 0 0 ∷ get_or xs 1 0 ∷ get_or xs 2 0 ∷ []
of_three [] e = absurd (omega (arith, e))
of_three (a ∷ []) e = absurd (omega (arith, e))
of_three (a ∷ b ∷ []) e = absurd (omega (arith, e))
of_three (a ∷ b ∷ c ∷ []) e = refl
of_three (a ∷ b ∷ c ∷ d ∷ xs) e = absurd (omega (arith, e))

-- a frame that is read: the number of its bytes, and so many bytes
pub frame_read : (a b c : Option (List ℕ)) (count : ℕ) (bytes : List ℕ) → Consumes a b (to_be_bytes w32 count) → Consumes b c bytes → length bytes ≡ count
    → Consumes a c (framed bytes)
frame_read a b c count bytes p q is =
    subst (λ (n : ℕ). Consumes a c (to_be_bytes w32 n ++ bytes)) (sym is) (consumes_then a b c (to_be_bytes w32 count) bytes p q)

-- a frame that is written: the number of its bytes, the name that it is for, and the bytes
pub frame_put : (a b c d e : Option (List ℕ)) (long named bytes : List ℕ) (head name to : ℕ) → Appends a b long → Appends b c named
    → Appends c d bytes → Keeps d e → long ≡ to_be_bytes w32 head → named ≡ to_be_bytes w64 name → head ≡ length bytes + 8 → name ≡ to
    → Appends a e (framed (addressed to bytes))
frame_put a b c d e long named bytes head name to p q r k spelled called is same =
    let count : head ≡ length (addressed to bytes) = omega (arith, is) in
    let first : long ≡ to_be_bytes w32 (length (addressed to bytes)) = spelled ∙ ap (λ (n : ℕ). to_be_bytes w32 n) count in
    let second : named ≡ to_be_bytes w64 to = called ∙ ap (λ (n : ℕ). to_be_bytes w64 n) same in
    subst (λ (xs : List ℕ). Appends a e (xs ++ addressed to bytes)) first
    (subst (λ (ys : List ℕ). Appends a e (long ++ (ys ++ bytes))) second
    (appends_kept a d e (long ++ (named ++ bytes)) (appends_then a b d long (named ++ bytes) p (appends_then b c d named bytes q r)) k))

pub on_ok : {X E P : Type 0} (r : Result X E) → P → OnOk r P
on_ok (Ok x) p = p
on_ok (Err e) p = tt

pub frame_then : {V E : Type 0} (r : Result V E) (items : V → List ℕ) (a b c : Option (List ℕ)) (count : ℕ) → Consumes a b (to_be_bytes w32 count)
    → IfOk r (λ v. Consumes b c (items v)) → IfOk r (λ v. length (items v) ≡ count) → IfOk r (λ v. Consumes a c (framed (items v)))
frame_then (Ok v) items a b c count p q is = frame_read a b c count (items v) p q is
frame_then (Err e) items a b c count p q is = tt
