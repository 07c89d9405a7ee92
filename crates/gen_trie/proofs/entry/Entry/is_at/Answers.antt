use Rattle.std.proofs.Common.{◌∙◌, ap, nat_eq}
use Rattle.std.specs.Cmp.Lexicographic.{pointwise}
use Rattle.hash_path.proofs.Words.{tied_bytes}
use Rattle.gen_trie.proofs.entry.Entry.is_at.Goals as goal

pub returns-then-self-hash : goal.returns-then-self-hash
returns-then-self-hash g c =
    c.eq.ensures ∙ ap (λ l. pointwise nat_eq l c.args.key.now) c.bytes.ensures.value
    ∙ tied_bytes c.args.hash c.args.self.now.hash c.args.key.now c.args.self.now.key c.if-self-hash.true
