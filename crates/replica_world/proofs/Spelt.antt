-- Messages that are spelled: over plain variables.
use Rattle.std.proofs.Common.{◌≡◌, ℕ, ◌+◌, ◌<◌, ◌≤◌, zero, suc, List, [], ◌∷◌, ◌++◌, map, length, drop, get_or, Some, None, inl, inr, refl, sym, ap, ◌∙◌, subst}
use Rattle.std.proofs.Common.{append_assoc}
use Rattle.std.proofs.lemmas.List.{append-nil, map-append}
use Rattle.std.proofs.lemmas.Option.{same_Some}
use Rattle.std.specs.List.{slice_get}
use Rattle.std.specs.declared.vec.Vec.{Vec}
use Rattle.wire_form.specs.declared.message.Message.{Message}
use Rattle.wire_form.specs.Message.{MessageValue, Spells, message_of}
use Rattle.page_fetching.proofs.Loops.{stands_at, is_past}
use Rattle.sync_protocol.specs.Posting.{IsPosted}
use Rattle.replica_model.specs.Mail.{Mail, mail_of}
use Rattle.replica_model.specs.Spelled.{IsSpelled, AreSpelled}
use Rattle.replica_world.specs.Spelled.{Adds, Gains, bytes_of}

abbrev pub mails : {A : Type 0} → List (Message A) → List Mail
mails ms = map mail_of (map message_of ms)

pub spelled_more : (bs cs : List (List ℕ)) (ms ns : List Mail) → AreSpelled bs ms → AreSpelled cs ns → AreSpelled (bs ++ cs) (ms ++ ns)
spelled_more [] cs [] ns first then = then
spelled_more [] cs (m ∷ ms) ns first then = absurd first
spelled_more (b ∷ bs) cs [] ns first then = absurd first
spelled_more (b ∷ bs) cs (m ∷ ms) ns first then = (first.0, spelled_more bs cs ms ns first.1 then)

pub as_many : (bs : List (List ℕ)) (ms : List Mail) → AreSpelled bs ms → length bs ≡ length ms
as_many [] [] are = refl
as_many [] (m ∷ ms) are = absurd are
as_many (b ∷ bs) [] are = absurd are
as_many (b ∷ bs) (m ∷ ms) are = ap suc (as_many bs ms are.1)

-- what was posted is behind the others
pub posted_spelled : (old new : List (List ℕ)) (out : List MessageValue) (ms : List Mail) → IsPosted Gains old new out → AreSpelled old ms
    → AreSpelled new (ms ++ map mail_of out)
posted_spelled old new out ms (inl (more, is, spelled)) before = subst (λ all. AreSpelled all (ms ++ map mail_of out)) (sym is)
    (spelled_more old more ms (map mail_of out) before spelled)
posted_spelled old new out ms (inr (is, none)) before =
    let same : ms ++ map mail_of out ≡ ms = ap (λ o. ms ++ map mail_of o) none ∙ append-nil ms in
    subst (λ all. AreSpelled all (ms ++ map mail_of out)) (sym is) (subst (AreSpelled old) (sym same) before)

pub posted_adds : (old new : List (List ℕ)) (out : List MessageValue) → IsPosted Gains old new out → Adds old new
posted_adds old new out (inl (more, is, spelled)) = (more, is)
posted_adds old new out (inr (is, none)) = ([], is ∙ sym (append-nil old))

pub nothing_added : (old : List (List ℕ)) → Adds old old
nothing_added old = ([], sym (append-nil old))

-- the one at a place
pub spelled_at : (bs : List (List ℕ)) (ms : List Mail) → AreSpelled bs ms → (n : ℕ) (b : List ℕ) → slice_get bs n ≡ Some b → (m : Mail)
    × (slice_get ms n ≡ Some m) × IsSpelled b m
spelled_at [] [] are n b is = absurd cc
spelled_at [] (m ∷ ms) are n b is = absurd are
spelled_at (c ∷ bs) [] are n b is = absurd are
spelled_at (c ∷ bs) (m ∷ ms) are zero b is = (m, refl, subst (λ x. IsSpelled x m) (same_Some _ _ is) are.0)
spelled_at (c ∷ bs) (m ∷ ms) are (suc n) b is = spelled_at bs ms are.1 n b is

pub spelled_past : (bs : List (List ℕ)) (ms : List Mail) → AreSpelled bs ms → (n : ℕ) → slice_get bs n ≡ None → slice_get ms n ≡ None
spelled_past [] [] are n is = refl
spelled_past [] (m ∷ ms) are n is = absurd are
spelled_past (c ∷ bs) [] are n is = absurd are
spelled_past (c ∷ bs) (m ∷ ms) are zero is = absurd cc
spelled_past (c ∷ bs) (m ∷ ms) are (suc n) is = spelled_past bs ms are.1 n is

-- an item of a list by its image
pub map_back : {X Y : Type 0} (f : X → Y) (xs : List X) (n : ℕ) (y : Y) → slice_get (map f xs) n ≡ Some y → (x : X) × (slice_get xs n ≡ Some x) × (f x ≡ y)
map_back f [] n y is = absurd cc
map_back f (x ∷ xs) zero y is = (x, refl, same_Some _ _ is)
map_back f (x ∷ xs) (suc n) y is = map_back f xs n y is

pub map_past : {X Y : Type 0} (f : X → Y) (xs : List X) (n : ℕ) → slice_get (map f xs) n ≡ None → slice_get xs n ≡ None
map_past f [] n is = refl
map_past f (x ∷ xs) zero is = absurd cc
map_past f (x ∷ xs) (suc n) is = map_past f xs n is

-- one more is posted
pub posts : {A : Type 0} (old new : List (Vec ℕ A)) (bytes : Vec ℕ A) (m : MessageValue) → new ≡ old ++ bytes ∷ [] → Spells bytes.items m
    → Gains (bytes_of old) (bytes_of new) (m ∷ [])
posts old new bytes m is spells = (bytes.items ∷ [], ap bytes_of is ∙ map-append (λ (b : Vec ℕ _). b.items) old (bytes ∷ []), ((m, spells, refl), tt))

pub posts_all : {A : Type 0} (old new more : List (Vec ℕ A)) (ms : List MessageValue) → new ≡ old ++ more → AreSpelled (bytes_of more) (map mail_of ms)
    → Gains (bytes_of old) (bytes_of new) ms
posts_all old new more ms is spelled = (bytes_of more, ap bytes_of is ∙ map-append (λ (b : Vec ℕ _). b.items) old more, spelled)

-- messages that are spelled one by one: with the bytes of the rest behind them all are
abbrev pub Spelling : {A : Type 0} → List (Vec ℕ A) → List (Message A) → ℕ → Type 0
Spelling spelled ms i = (bs : List (List ℕ)) → AreSpelled bs (mails (drop i ms)) → AreSpelled (bytes_of spelled ++ bs) (mails ms)

pub one_spelled : {A : Type 0} (spelled new : List (Vec ℕ A)) (bytes : Vec ℕ A) (ms : List (Message A)) (i : ℕ) (m : Message A) → Spelling spelled ms i
    → i < length ms → m ≡ get_or ms i m
    → Spells bytes.items (message_of m) → new ≡ spelled ++ bytes ∷ [] → Spelling new ms (i + 1)
one_spelled spelled new bytes ms i m before within is spells put bs rest =
    let all = before (bytes.items ∷ bs) (subst (λ l. AreSpelled (bytes.items ∷ bs) (mails l)) (sym (stands_at ms i m within is))
    ((message_of m, spells, refl), rest)) in
    let same : bytes_of spelled ++ bytes.items ∷ bs ≡ bytes_of new ++ bs =
    sym (append_assoc (bytes_of spelled) (bytes.items ∷ []) bs) ∙ ap (λ l. l ++ bs) (sym (map-append (λ (b : Vec ℕ _). b.items) spelled (bytes ∷ [])))
    ∙ ap (λ l. bytes_of l ++ bs) (sym put) in
    subst (λ l. AreSpelled l (mails ms)) same all

pub all_spelled : {A : Type 0} (spelled : List (Vec ℕ A)) (ms : List (Message A)) (i : ℕ) → Spelling spelled ms i → length ms ≤ i
    → AreSpelled (bytes_of spelled) (mails ms)
all_spelled spelled ms i before past =
    subst (λ l. AreSpelled l (mails ms)) (append-nil (bytes_of spelled)) (before [] (subst (λ l. AreSpelled [] (mails l)) (sym (is_past ms i past)) tt))
