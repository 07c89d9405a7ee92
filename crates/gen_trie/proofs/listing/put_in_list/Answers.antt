use Rattle.std.proofs.Common.{◌≡◌, ◌<◌, ◌∷◌, length, get_or, true, false, refl, arith, sym, ◌∙◌, ap, subst}
use Rattle.std.specs.Ordering.{eq_by_cmp}
use Rattle.dots.specs.Bytes.{bytes_cmp}
use Rattle.hash_path.specs.Rank.{rank}
use Rattle.gen_trie.specs.Shapes.{listed}
use Rattle.gen_trie.proofs.Puts.{list_set, list_room, list_insert}
use Rattle.gen_trie.proofs.listing.put_in_list.Goals as goal

pub index_mut-requires : goal.index_mut-requires
index_mut-requires g c =
    let within = c.if-has_key_of.ensures.within refl in
    let len = c.deref-2.ensures.len in
    omega arith

pub returns-then-has_key_of-clause-ok : goal.returns-then-has_key_of-clause-ok
returns-then-has_key_of-clause-ok g c =
    let within = c.if-has_key_of.ensures.within refl in
    let w = c.args.leaf.value.hash ∷ c.args.leaf.value.key in
    list_set c.rank_of-at.result c.args.leaf c.args.entries.now.items
    (c.rank_of-at.ensures ∙ ap (λ es. rank w (listed es)) c.deref.ensures.value)
    (subst (λ es. c.rank_of-at.result < length es) c.deref-2.ensures.value within)
    (λ d. subst (λ es. true ≡ eq_by_cmp bytes_cmp w (get_or (listed es) c.rank_of-at.result d).0) c.deref-2.ensures.value
    (c.if-has_key_of.ensures.same within d))

pub insert-requires : goal.insert-requires
insert-requires g c =
    let w = c.args.leaf.value.hash ∷ c.args.leaf.value.key in
    let room = list_room c.rank_of-at.result c.args.leaf.value c.args.entries.now.items
    (c.rank_of-at.ensures ∙ ap (λ es. rank w (listed es)) c.deref.ensures.value) in
    let len = c.args.entries.now.ok.0 in
    omega arith

pub returns-clause-ok : goal.returns-clause-ok
returns-clause-ok g c =
    let w = c.args.leaf.value.hash ∷ c.args.leaf.value.key in
    list_insert c.rank_of-at.result c.args.leaf c.args.entries.now.items c.insert.new.self.items
    (c.rank_of-at.ensures ∙ ap (λ es. rank w (listed es)) c.deref.ensures.value)
    (λ h d. subst (λ es. false ≡ eq_by_cmp bytes_cmp w (get_or (listed es) c.rank_of-at.result d).0) c.deref-2.ensures.value
    (c.if-has_key_of.ensures.same (subst (λ es. c.rank_of-at.result < length es) (sym c.deref-2.ensures.value) h) d))
    c.in_ok-insert.ensures.items
