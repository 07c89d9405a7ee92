use Rattle.std.proofs.Common.{List, ℕ, get_or, arith}
use Rattle.causal_context.specs.Context.{has}
use Rattle.dot_store.specs.Stores.{at_stores}
use Rattle.dots.specs.Bytes.{bytes_cmp}
use Rattle.live_map.proofs.OneKey.{knows_added}
use Rattle.live_map.proofs.NewKey.{BringsOne, brings_one, entry_alone, new_key_joined, new_key_inside, new_key_indexed}
use Rattle.live_map.proofs.new_key.copy_at_new_key.Given as given
use Rattle.live_map.proofs.new_key.copy_at_new_key.Goals as goal

-- the delta's one entry
abbrev key : (g : given.Over) (c : goal.In_ok-put_copied g) → List ℕ
key g c = (get_or c.entries.result.now 0 c.index-key-0.result).0

brings : (g : given.Over) (c : goal.In_ok-put_copied g) → BringsOne g.S.DotStore.at c.args.store.now (has c.args.context.now) (at_stores g.S.DotStore.at bytes_cmp c.args.delta.now.0)
    (has c.args.delta.now.1) (key g c) c.args.dot c.put_copied.new.store
brings g c =
    brings_one g.S.DotStore.at c.args.store.now c.args.context.now c.args.delta.now.0 c.args.delta.now.1 c.args.dot c.put_copied.new.store
    c.store.result.now c.entries.result.now (key g c) (get_or c.entries.result.now 0 c.index-yours-0.result).1
    c.requires.new c.store.ensures.value c.entries.ensures.rest
    (entry_alone c.entries.result.now c.index-key-0.result c.index-yours-0.result (omega (arith, c.in-len1.len_at_least, c.in-len1.len_below)))
    c.entries.ensures.held c.entries.ensures.only c.store.ensures.inside c.in_ok-put_copied.ensures.ok

pub returns-clause-ok : goal.returns-clause-ok
returns-clause-ok g c = new_key_joined _ g.S.DotStore.greater _ _ _ _ _ _ _ (brings g c) c.requires.inside

pub returns-clause-inside : goal.returns-clause-inside
returns-clause-inside g c =
    new_key_inside _ g.S.DotStore.greater _ _ _ _ _ _ _ (brings g c) c.requires.inside (has c.put_copied.new.context)
    (knows_added c.args.context.now c.args.delta.now.1 c.put_copied.new.context c.args.dot c.requires.new.only_new c.in_ok-put_copied.ensures.known)

pub returns-clause-indexed : goal.returns-clause-indexed
returns-clause-indexed g c =
    new_key_indexed _ g.S.DotStore.greater _ _ _ _ _ _ _ (brings g c) c.requires.inside c.args.index.now c.put_copied.new.index c.requires.indexed
    c.put_copied.ensures.kept c.in_ok-put_copied.ensures.there
