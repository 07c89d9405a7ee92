use Rattle.std.proofs.Common.{◌∙◌, length, sym, ap}
use Rattle.causal_context.specs.Context.{has}
use Rattle.dot_store.specs.Stores.{at_stores}
use Rattle.dots.specs.Bytes.{bytes_cmp}
use Rattle.live_map.proofs.OneKey.{knows_added}
use Rattle.live_map.proofs.NewKey.{BringsOne, brings_one, last_alone, new_key_joined, new_key_inside, new_key_indexed}
use Rattle.live_map.proofs.new_key.take_at_new_key.Given as given
use Rattle.live_map.proofs.new_key.take_at_new_key.Goals as goal

brings : (g : given.Over) (c : goal.In_ok-put_named g) → BringsOne g.S.DotStore.at c.args.store.now (has c.args.context.now) (at_stores g.S.DotStore.at bytes_cmp c.args.delta.0)
    (has c.args.delta.1) c.in-Some.key c.args.dot c.put_named.new.store
brings g c =
    let held = c.entries.ensures.rest ∙ c.store.ensures.value in
    brings_one g.S.DotStore.at c.args.store.now c.args.context.now c.args.delta.0 c.args.delta.1 c.args.dot c.put_named.new.store
    c.store.result.now c.entries.result.now c.in-Some.key c.in-Some.yours
    c.requires.new c.store.ensures.value c.entries.ensures.rest
    (last_alone c.entries.result.now c.pop.new.self.items (c.in-Some.key, c.in-Some.yours)
    (held ∙ sym (ap (λ (parts : _ × _). parts.0) c.into_parts-brought.ensures) ∙ sym c.into_entries-entries.ensures.all ∙ c.in-Some.ensures.items)
    (ap length held ∙ c.requires.new.one))
    c.entries.ensures.held c.entries.ensures.only c.store.ensures.inside c.in_ok-put_named.ensures.ok

pub returns-clause-ok : goal.returns-clause-ok
returns-clause-ok g c = new_key_joined _ g.S.DotStore.greater _ _ _ _ _ _ _ (brings g c) c.requires.inside

pub returns-clause-inside : goal.returns-clause-inside
returns-clause-inside g c =
    new_key_inside _ g.S.DotStore.greater _ _ _ _ _ _ _ (brings g c) c.requires.inside (has c.put_named.new.context)
    (knows_added c.args.context.now c.args.delta.1 c.put_named.new.context c.args.dot c.requires.new.only_new c.in_ok-put_named.ensures.known)

pub returns-clause-indexed : goal.returns-clause-indexed
returns-clause-indexed g c =
    new_key_indexed _ g.S.DotStore.greater _ _ _ _ _ _ _ (brings g c) c.requires.inside c.args.index.now c.put_named.new.index c.requires.indexed
    c.put_named.ensures.kept c.in_ok-put_named.ensures.there
