use Rattle.std.proofs.Common.{◌∷◌, arith, ◌∙◌, ap}
use Rattle.hash_path.specs.Cut.{spot}
use Rattle.gen_trie.specs.Shapes.{listed}
use Rattle.gen_trie.proofs.Takes.{list_cut, list_kept}
use Rattle.gen_trie.proofs.listing.take_from_list.Goals as goal

pub returns-then-at-len : goal.returns-then-at-len
returns-then-at-len g c =
    let w = c.args.hash ∷ c.args.key.now in
    let less = c.if-at-len.true in
    let len = c.len.ensures in
    let count = c.args.entries.now.ok.0 in
    list_cut c.place_of-at.result w c.args.entries.now.items c.remove.new.self.items c.requires
    (c.place_of-at.ensures ∙ ap (λ es. spot w (listed es)) c.deref.ensures.value)
    (omega arith) c.remove.ensures.items

pub returns-else-at-len : goal.returns-else-at-len
returns-else-at-len g c =
    let w = c.args.hash ∷ c.args.key.now in
    let past = c.if-at-len.false in
    let len = c.len.ensures in
    let count = c.args.entries.now.ok.0 in
    list_kept c.place_of-at.result w c.args.entries.now.items (c.place_of-at.ensures ∙ ap (λ es. spot w (listed es)) c.deref.ensures.value) (omega arith)
