use Rattle.std.proofs.Common.{◌∷◌, ◌∙◌, ap, arith}
use Rattle.hash_path.specs.Cut.{spot}
use Rattle.gen_trie.specs.Shapes.{listed}
use Rattle.gen_trie.proofs.Changes.{list_within, list_fits, list_changed, list_same}
use Rattle.gen_trie.proofs.Puts.{ok_so, err_so}
use Rattle.gen_trie.proofs.changing.change_in_list.Goals as goal

pub index_mut-requires : goal.index_mut-requires
index_mut-requires g c =
    let within = list_within c.args.hash c.args.key.now c.place_of-at.result c.args.entries.now.items (g.C.Change.fits c.args.change.now) c.requires.found
    (c.place_of-at.ensures ∙ ap (λ es. spot (c.args.hash ∷ c.args.key.now) (listed es)) c.deref.ensures.value) in
    let len = c.args.entries.now.ok.0 in
    omega arith

pub change_entry-requires : goal.change_entry-requires
change_entry-requires g c =
    let place = c.place_of-at.ensures ∙ ap (λ es. spot (c.args.hash ∷ c.args.key.now) (listed es)) c.deref.ensures.value in
    list_fits c.args.hash c.args.key.now c.place_of-at.result c.args.entries.now.items c.index_mut.result.now (g.C.Change.fits c.args.change.now)
    c.requires.found place c.index_mut.ensures.value

pub returns-clause-ok : goal.returns-clause-ok
returns-clause-ok g c =
    let place = c.place_of-at.ensures ∙ ap (λ es. spot (c.args.hash ∷ c.args.key.now) (listed es)) c.deref.ensures.value in
    ok_so c.change_entry.result
    (λ change. list_changed c.args.hash c.args.key.now c.place_of-at.result c.args.entries.now.items c.index_mut.result.now (g.C.Change.fits c.args.change.now)
    c.requires.found place c.index_mut.ensures.value
    (g.C.Change.becomes c.args.change.now) c.change_entry.new.entry c.requires.sorted c.change_entry.ensures.hash c.change_entry.ensures.key change)
    c.change_entry.ensures.ok

pub returns-clause-same : goal.returns-clause-same
returns-clause-same g c =
    let place = c.place_of-at.ensures ∙ ap (λ es. spot (c.args.hash ∷ c.args.key.now) (listed es)) c.deref.ensures.value in
    err_so c.change_entry.result
    (λ same. list_same c.args.hash c.args.key.now c.place_of-at.result c.args.entries.now.items c.index_mut.result.now (g.C.Change.fits c.args.change.now)
    c.requires.found place c.index_mut.ensures.value
    c.change_entry.new.entry c.change_entry.ensures.hash c.change_entry.ensures.key same)
    c.change_entry.ensures.same
