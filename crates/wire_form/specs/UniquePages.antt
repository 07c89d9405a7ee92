-- That the parts of a page have one spelling each, whatever follows, and none is empty. Of this project.
use Rattle.std.proofs.Common.{arith}
use Rattle.wire_form.specs.Spelling.{byte, IsByte, pair, IsPair}
use Rattle.wire_form.specs.Parts.{text, IsText, dot_bytes, IsDot}
use Rattle.wire_form.specs.Page.{digest, IsDigest, names, AreNames, named, AreNamed}
use Rattle.wire_form.specs.Unique.{IsUnique, HasBytes, same_front, pair_unique, dot_unique, text_unique, counted_unique, counted_starts}

pub byte_unique : IsUnique byte IsByte
byte_unique m n a b p q e = (cc, cc)

pub byte_starts : HasBytes byte IsByte
byte_starts n p = omega arith

pub digest_unique : IsUnique digest IsDigest
digest_unique d e a b p q h = same_front 32 d e a b p q h

pub digest_starts : HasBytes digest IsDigest
digest_starts d p = omega (arith, p)

pub names_unique : IsUnique names AreNames
names_unique ns ms a b p q e =
    counted_unique (pair dot_bytes digest) (IsPair IsDot IsDigest)
    (pair_unique dot_bytes IsDot digest IsDigest dot_unique digest_unique) ns ms a b p.each q.each e

pub names_starts : HasBytes names AreNames
names_starts ns p = counted_starts (pair dot_bytes digest) (IsPair IsDot IsDigest) ns p.each

pub named_unique : IsUnique named AreNamed
named_unique fs gs a b p q e =
    counted_unique (pair text names) (IsPair IsText AreNames) (pair_unique text IsText names AreNames text_unique names_unique) fs gs a b p.each q.each e

pub named_starts : HasBytes named AreNamed
named_starts fs p = counted_starts (pair text names) (IsPair IsText AreNames) fs p.each
