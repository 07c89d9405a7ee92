-- What messages say behind their session: prefixes, root digests, pages.
use Rattle.std.proofs.Common.{◌≡◌, Some, None, ◌++◌, length, refl, sym, ap, ◌∙◌}
use Rattle.std.specs.List.{flat_map}
use Rattle.wire_form.specs.Spelling.{byte, IsByte, counted, AreCounted}
use Rattle.wire_form.specs.Parts.{text, IsText, context, IsContext}
use Rattle.wire_form.specs.Prefix.{prefix, IsPrefix}
use Rattle.wire_form.specs.Page.{PageValue, OneKey, Keys, Branch, digest, IsDigest, named, AreNamed, entry, IsEntry, child, IsChild, spelled, ArePartsOf}
use Rattle.wire_form.specs.Sent.{sent, IsSent}
use Rattle.wire_form.specs.Message.{root, IsRoot, opening, IsOpening, empty_spelling, IsNothing}
use Rattle.wire_form.specs.Unique.{IsUnique, HasBytes, same_front, pair_unique, pair_starts, text_unique, text_starts, counted_unique}
use Rattle.wire_form.specs.UniquePages.{byte_unique, byte_starts, digest_unique, named_unique}
use Rattle.wire_form.proofs.Wholes.{IsOneWhole, one_whole, one_list}
use Rattle.wire_form.proofs.Bodies.{context_unique}

-- ---- prefixes

pub prefix_unique : IsUnique prefix IsPrefix
prefix_unique p q a b fp fq e =
    let len : length p ≡ length q = cc in
    let rest : p ++ a ≡ q ++ b = cc in
    same_front (length p) p q a b refl (sym len) rest

-- ---- openings

root_unique : IsUnique root IsRoot
root_unique None None a b p q e = (refl, cc)
root_unique None (Some d) a b p q e = absurd (cc e)
root_unique (Some d) None a b p q e = absurd (cc e)
root_unique (Some d) (Some f) a b p q e =
    let rest : d ++ a ≡ f ++ b = cc in
    let same = same_front 32 d f a b p q rest in
    (ap Some same.0, same.1)

pub opening_unique : IsUnique opening IsOpening
opening_unique = pair_unique context IsContext root IsRoot context_unique root_unique

pub one_nothing : IsOneWhole empty_spelling IsNothing
one_nothing bytes v w p q = refl

-- ---- pages

pub entry_unique : IsUnique entry IsEntry
entry_unique = pair_unique text IsText named AreNamed text_unique named_unique

pub entry_starts : HasBytes entry IsEntry
entry_starts = pair_starts text IsText named AreNamed text_starts

pub child_unique : IsUnique child IsChild
child_unique = pair_unique byte IsByte digest IsDigest byte_unique digest_unique

pub child_starts : HasBytes child IsChild
child_starts = pair_starts byte IsByte digest IsDigest byte_starts

pub one_page : (p q : PageValue) → ArePartsOf p → ArePartsOf q → spelled p ≡ spelled q → p ≡ q
one_page (OneKey e) (OneKey f) a b h =
    let rest : entry e ≡ entry f = cc in
    ap OneKey (one_whole entry IsEntry entry_unique (entry e) e f (record { fits = a; spelling = refl }) (record { fits = b; spelling = rest }))
one_page (Keys es) (Keys fs) a b h =
    let rest : flat_map entry es ≡ flat_map entry fs = cc in
    ap Keys (one_list entry IsEntry entry_starts entry_unique (flat_map entry es) es fs (record { fits = a; spelling = refl })
    (record { fits = b; spelling = rest }))
one_page (Branch cs) (Branch ds) a b h =
    let rest : flat_map child cs ≡ flat_map child ds = cc in
    ap Branch (one_list child IsChild child_starts child_unique (flat_map child cs) cs ds (record { fits = a; spelling = refl })
    (record { fits = b; spelling = rest }))
one_page (OneKey e) (Keys fs) a b h = absurd (cc h)
one_page (OneKey e) (Branch ds) a b h = absurd (cc h)
one_page (Keys es) (OneKey f) a b h = absurd (cc h)
one_page (Keys es) (Branch ds) a b h = absurd (cc h)
one_page (Branch cs) (OneKey f) a b h = absurd (cc h)
one_page (Branch cs) (Keys fs) a b h = absurd (cc h)

-- the values in front of a page
pub texts_unique : IsUnique (counted text) (AreCounted IsText)
texts_unique = counted_unique text IsText text_unique

pub one_sent : IsOneWhole sent IsSent
one_sent bytes s t p q =
    let first = prefix_unique s.prefix t.prefix (counted text s.values ++ spelled s.page) (counted text t.values ++ spelled t.page) p.fits.prefix q.fits.prefix
    (sym p.spelling ∙ q.spelling) in
    let second = texts_unique s.values t.values (spelled s.page) (spelled t.page) p.fits.values q.fits.values first.1 in
    let third = one_page s.page t.page p.fits.parts q.fits.parts second.1 in
    λ i. record { prefix = first.0 i; values = second.0 i; page = third i }
