use Rattle.std.proofs.Common.{sym, ◌∙◌, subst}
use Rattle.page_fetching.proofs.Ascending.{Gathers, none_gathered, one_gathered, all_gathered}
use Rattle.page_fetching.proofs.prefixes.set_of.Goals as goal

pub loop-key-init : goal.loop-key-init
loop-key-init g c =
    subst (Gathers (g.H.PathHash.hash_of c.args.waiting.now.hash) c.args.waiting.now.map c.new-prefixes.result)
    (sym (c.into_iter-key-iterator.ensures.into_iter_gives ∙ c.iter-key-items.ensures))
    (none_gathered (g.H.PathHash.hash_of c.args.waiting.now.hash) c.args.waiting.now.map c.new-prefixes.result c.requires c.new-prefixes.ensures.ordered
    c.new-prefixes.ensures.empty)

pub loop-key-preserved : goal.loop-key-preserved
loop-key-preserved g c =
    one_gathered (g.H.PathHash.hash_of c.args.waiting.now.hash) c.args.waiting.now.map c.loop-key.prefixes c.insert.new.self
    (c.in-Some.key.now, c.in-Some.field-0-1.now) c.next.new.self c.prefix_of-prefix.result
    (subst (Gathers (g.H.PathHash.hash_of c.args.waiting.now.hash) c.args.waiting.now.map c.loop-key.prefixes) c.in-Some.ensures.steps c.loop-key.invariant)
    (c.prefix_of-prefix.ensures ∙ c.bytes.ensures.value) c.in_ok-insert.ensures.ordered c.in_ok-insert.ensures.updates.0

pub returns-clause-ok : goal.returns-clause-ok
returns-clause-ok g c =
    all_gathered (g.H.PathHash.hash_of c.args.waiting.now.hash) c.args.waiting.now.map c.loop-key.prefixes
    (subst (Gathers (g.H.PathHash.hash_of c.args.waiting.now.hash) c.args.waiting.now.map c.loop-key.prefixes) c.in-None.ensures.steps.0 c.loop-key.invariant)
