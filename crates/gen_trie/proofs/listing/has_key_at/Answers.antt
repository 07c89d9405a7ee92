use Rattle.std.proofs.Common.{◌∷◌, length, arith, sym, ◌∙◌, ap, ltb-true, ltb-false}
use Rattle.std.specs.Ordering.{eq_by_cmp}
use Rattle.dots.specs.Bytes.{bytes_cmp}
use Rattle.gen_trie.proofs.Puts.{key_at}
use Rattle.gen_trie.proofs.listing.has_key_at.Goals as goal

pub returns-in-Some : goal.returns-in-Some
returns-in-Some g c =
    let found = c.in-Some.ensures.lookup in
    record {
      within = λ t. ltb-true c.args.at (length c.args.entries.now) (sym found.0);
      same = λ h d. key_at c.args.at (c.args.hash ∷ c.args.key.now) c.in-Some.entry.now c.is_at.result c.args.entries.now d h found.1
          (c.is_at.ensures ∙ ap (λ e. eq_by_cmp bytes_cmp (c.args.hash ∷ c.args.key.now) (e.hash ∷ e.key)) c.deref.ensures);
    }

pub returns-in-None : goal.returns-in-None
returns-in-None g c =
    let none = c.in-None.ensures.lookup in
    let past = ltb-false c.args.at (length c.args.entries.now) (sym none.0) in
    record { within = λ t. cc; same = λ h d. absurd (omega arith) }
