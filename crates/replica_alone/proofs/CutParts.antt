-- What waits, told with where a flush came: the deltas that were made and the flushes between them, the last of these first. And lists of mails that
-- have the same members.
use Rattle.std.proofs.Common.{◌≡◌, ◌⊎◌, inl, inr, ◌≤◌, List, [], ◌∷◌, ◌++◌, length, refl, sym, ap, ◌∙◌, subst, append_assoc, arith}
use Rattle.std.specs.Prelude.{◌↔◌, Contains}
use Rattle.std.proofs.lemmas.List.{append-nil}
use Rattle.std.proofs.lemmas.List.Elements.{Contains-append_left, Contains-append_right, Contains-append_cases}
use Rattle.op_model.specs.Meaning.{MapState, state}
use Rattle.replica_model.specs.Mail.{Mail, Delta}
use Rattle.replica_model.specs.Step.{KnowsNone}
use Rattle.replica_alone.specs.Waiting.{all_of, IsSentAs}
use Rattle.replica_alone.proofs.CutDeltas.{AreInside, all_inside, nothing_is}

-- ---- lists of the same members

-- the same mails are in both, however often
abbrev pub SameMails : List Mail → List Mail → Type 0
SameMails xs ys = (mail : Mail) → Contains xs mail ↔ Contains ys mail

-- so it is of one list, and from one to the next
pub mails_same : (xs ys : List Mail) → xs ≡ ys → SameMails xs ys
mails_same xs ys e mail =
    let P : List Mail → Type 0 = λ l. Contains l mail in
    (λ h. subst P e h, λ h. subst P (sym e) h)

pub mails_then : (xs ys zs : List Mail) → SameMails xs ys → SameMails ys zs → SameMails xs zs
mails_then xs ys zs f g mail = (λ h. (g mail).0 ((f mail).0 h), λ h. (f mail).1 ((g mail).1 h))

-- so it is of such lists behind such lists
one_way : (xs ys more rest : List Mail) (mail : Mail) → (Contains xs mail → Contains ys mail) → (Contains more mail → Contains rest mail)
    → Contains (xs ++ more) mail → Contains (ys ++ rest) mail
one_way xs ys more rest mail f g h =
    elim (Contains-append_cases xs more mail h) [
      | inl here ↦ Contains-append_left ys rest mail (f here)
      | inr there ↦ Contains-append_right ys rest mail (g there)
    ]

pub mails_both : (xs ys more rest : List Mail) → SameMails xs ys → SameMails more rest → SameMails (xs ++ more) (ys ++ rest)
mails_both xs ys more rest f g mail = (
  one_way xs ys more rest mail (f mail).0 (g mail).0,
  one_way ys xs rest more mail (f mail).1 (g mail).1,
)

-- and of two lists in either order
turned : (xs ys : List Mail) (mail : Mail) → Contains (xs ++ ys) mail → Contains (ys ++ xs) mail
turned xs ys mail h =
    elim (Contains-append_cases xs ys mail h) [
      | inl here ↦ Contains-append_right ys xs mail here
      | inr there ↦ Contains-append_left ys xs mail there
    ]

pub mails_turned : (xs ys : List Mail) → SameMails (xs ++ ys) (ys ++ xs)
mails_turned xs ys mail = (turned xs ys mail, turned ys xs mail)

-- ---- what waits, and where a flush came

pub data Piece : Type 0 where
  Queued : MapState → Piece  -- a delta that was made
  Went : List Mail → Piece  -- a flush, and what it sent

-- all deltas, those behind the last flush, and what the flushes sent
abbrev pub queued : List Piece → List MapState
queued [] = []
queued (Queued delta ∷ ps) = queued ps ++ delta ∷ []
queued (Went out ∷ ps) = queued ps

abbrev pub behind : List Piece → List MapState
behind [] = []
behind (Queued delta ∷ ps) = behind ps ++ delta ∷ []
behind (Went out ∷ ps) = []

abbrev pub went : List Piece → List Mail
went [] = []
went (Queued delta ∷ ps) = went ps
went (Went out ∷ ps) = went ps ++ out

-- a flush sends so: nothing where there is nothing, else a delta
abbrev pub Flushes : List MapState → List Mail → Type 0
Flushes ws out = (KnowsNone (all_of ws) × (all_of ws ≡ state []) × (out ≡ [])) ⊎ ((¬ KnowsNone (all_of ws)) × (out ≡ Delta (all_of ws) ∷ []))

-- each flush among these sends what was made since the one before
abbrev pub Fit : List Piece → Type 0
Fit [] = Unit {0}
Fit (Queued delta ∷ ps) = Fit ps
Fit (Went out ∷ ps) = Flushes (behind ps) out × Fit ps

-- what a cut sends a flush sends
pub flushes_sent : (ws : List MapState) (out : List Mail) → AreInside ws → IsSentAs (all_of ws) out → Flushes ws out
flushes_sent ws out are (inl (none, e)) = inl (none, nothing_is (all_of ws) (all_inside ws are) none, e)
flushes_sent ws out are (inr (some, e)) = inr (some, e)

-- ---- more deltas, and no flush

-- these deltas, made after all that
abbrev pub more : List MapState → List Piece → List Piece
more [] ps = ps
more (delta ∷ ws) ps = more ws (Queued delta ∷ ps)

-- they are the last of those that wait, no flush sends them, and each flush sends what it did
pub more_queued : (ws : List MapState) (ps : List Piece) → queued (more ws ps) ≡ queued ps ++ ws
more_queued [] ps = sym (append-nil (queued ps))
more_queued (delta ∷ ws) ps = more_queued ws (Queued delta ∷ ps) ∙ append_assoc (queued ps) (delta ∷ []) ws

pub more_behind : (ws : List MapState) (ps : List Piece) → behind (more ws ps) ≡ behind ps ++ ws
more_behind [] ps = sym (append-nil (behind ps))
more_behind (delta ∷ ws) ps = more_behind ws (Queued delta ∷ ps) ∙ append_assoc (behind ps) (delta ∷ []) ws

pub more_went : (ws : List MapState) (ps : List Piece) → went (more ws ps) ≡ went ps
more_went [] ps = refl
more_went (delta ∷ ws) ps = more_went ws (Queued delta ∷ ps)

pub more_fit : (ws : List MapState) (ps : List Piece) → Fit ps → Fit (more ws ps)
more_fit [] ps f = f
more_fit (delta ∷ ws) ps f = more_fit ws (Queued delta ∷ ps) f

-- ---- these after others

-- what waits, and what was sent, in the order in which it came
pub queued_after : (ps qs : List Piece) → queued (ps ++ qs) ≡ queued qs ++ queued ps
queued_after [] qs = sym (append-nil (queued qs))
queued_after (Queued delta ∷ ps) qs = ap (λ ws. ws ++ delta ∷ []) (queued_after ps qs) ∙ append_assoc (queued qs) (queued ps) (delta ∷ [])
queued_after (Went out ∷ ps) qs = queued_after ps qs

pub went_after : (ps qs : List Piece) → went (ps ++ qs) ≡ went qs ++ went ps
went_after [] qs = sym (append-nil (went qs))
went_after (Queued delta ∷ ps) qs = went_after ps qs
went_after (Went out ∷ ps) qs = ap (λ xs. xs ++ out) (went_after ps qs) ∙ append_assoc (went qs) (went ps) out

-- behind a flush there is what came since
pub behind_after : (ps qs : List Piece) (out : List Mail) → behind (ps ++ Went out ∷ qs) ≡ behind ps
behind_after [] qs out = refl
behind_after (Queued delta ∷ ps) qs out = ap (λ ws. ws ++ delta ∷ []) (behind_after ps qs out)
behind_after (Went more ∷ ps) qs out = refl

-- and each flush sends what was made since the one before
pub fit_after : (ps qs : List Piece) (out : List Mail) → Fit ps → Flushes (behind qs) out → Fit qs → Fit (ps ++ Went out ∷ qs)
fit_after [] qs out f sends g = (sends, g)
fit_after (Queued delta ∷ ps) qs out f sends g = fit_after ps qs out f sends g
fit_after (Went more ∷ ps) qs out (here, f) sends g =
    let P : List MapState → Type 0 = λ ws. Flushes ws more in
    (subst P (sym (behind_after ps qs out)) here, fit_after ps qs out f sends g)

-- ---- at most one delta

-- none is at the end of nothing
pub not_nothing : {G : Type 0} (ws : List MapState) (delta : MapState) → ws ++ delta ∷ [] ≡ [] → G
not_nothing [] delta e = absurd cc
not_nothing (d ∷ ws) delta e = absurd cc

-- the last one, and those before it
pub last_one : (ws vs : List MapState) (delta last : MapState) → ws ++ delta ∷ [] ≡ vs ++ last ∷ [] → (ws ≡ vs) × (delta ≡ last)
last_one [] [] delta last e = (refl, cc)
last_one [] (v ∷ vs) delta last e = let none : [] ≡ vs ++ last ∷ [] = cc in not_nothing vs last (sym none)
last_one (w ∷ ws) [] delta last e = let none : ws ++ delta ∷ [] ≡ [] = cc in not_nothing ws delta none
last_one (w ∷ ws) (v ∷ vs) delta last e =
    let here : w ≡ v = cc in
    let both = last_one ws vs delta last cc in
    ((λ i. here i ∷ both.0 i), both.1)

-- where no delta waits, none is behind a flush, and no flush sent any
pub none_behind : (ps : List Piece) → queued ps ≡ [] → behind ps ≡ []
none_behind [] e = refl
none_behind (Queued delta ∷ ps) e = not_nothing (queued ps) delta e
none_behind (Went out ∷ ps) e = refl

-- a flush of nothing sends nothing
nothing_sent : (ws : List MapState) (out : List Mail) → ws ≡ [] → Flushes ws out → out ≡ []
nothing_sent ws out e (inl (none, same, o)) = o
nothing_sent ws out e (inr (some, o)) =
    let P : List MapState → Type 0 = λ l. KnowsNone (all_of l) in
    absurd (some (subst P (sym e) (λ dot. refl)))

-- so none of them sends any
pub none_went : (ps : List Piece) → Fit ps → queued ps ≡ [] → went ps ≡ []
none_went [] f e = refl
none_went (Queued delta ∷ ps) f e = not_nothing (queued ps) delta e
none_went (Went out ∷ ps) (here, f) e = λ i. none_went ps f e i ++ nothing_sent (behind ps) out (none_behind ps e) here i

-- where one waits at most, none waited before the last
none_before : (ws : List MapState) (delta : MapState) → length (ws ++ delta ∷ []) ≤ 1 → ws ≡ []
none_before [] delta few = refl
none_before (w ∷ []) delta few = absurd (omega arith)
none_before (w ∷ v ∷ ws) delta few = absurd (omega arith)

-- so all that waits is behind the last flush, and no flush sent any
pub few_behind : (ps : List Piece) (delta : MapState) → length (queued ps ++ delta ∷ []) ≤ 1 → behind ps ++ delta ∷ [] ≡ queued ps ++ delta ∷ []
few_behind ps delta few =
    let none = none_before (queued ps) delta few in
    ap (λ ws. ws ++ delta ∷ []) (none_behind ps none ∙ sym none)

pub few_went : (ps : List Piece) (delta : MapState) → Fit ps → length (queued ps ++ delta ∷ []) ≤ 1 → went ps ≡ []
few_went ps delta f few = none_went ps f (none_before (queued ps) delta few)
