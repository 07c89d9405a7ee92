use Rattle.std.proofs.Common.{◌∷◌, drop, sym, ◌∙◌, ap}
use Rattle.hash_path.proofs.Words.{tied_same}
use Rattle.gen_trie.proofs.entry.entry_for.Goals as goal

pub returns-then-is_at-clause-key : goal.returns-then-is_at-clause-key
returns-then-is_at-clause-key g c =
    sym (ap (drop 1) (tied_same (c.args.hash ∷ c.args.key.now) (c.deref.result.now.hash ∷ c.deref.result.now.key) (sym c.if-is_at.ensures))
    ∙ ap (λ e. e.key) c.deref.ensures)
