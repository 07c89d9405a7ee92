use Rattle.std.proofs.Common.{◌++◌, ap, ◌∙◌}
use Rattle.hash_path.specs.Map.{walk_under}
use Rattle.wire_form.specs.Page.{Keys}
use Rattle.prefix_digest.specs.Page.{named_entry, named_entries}
use Rattle.prefix_digest.proofs.Going.{one_more_made, all_made}
use Rattle.prefix_digest.proofs.pages.keys.Goals as goal

pub loop-key-init : goal.loop-key-init
loop-key-init g c = λ t. c.new-entries.ensures.items t ++ named_entries ((c.into_iter-key-iterator.ensures.into_iter_gives ∙ c.iter_under-key-items.ensures) t)

pub loop-key-preserved : goal.loop-key-preserved
loop-key-preserved g c =
    one_more_made named_entry c.loop-key.entries.items c.push.new.self.items c.loop-key.key-iterator c.next.new.self
    (walk_under (g.H.PathHash.hash_of c.args.frozen.now.hash) c.args.prefix c.args.frozen.now.map)
    (c.in-Some.key.now, c.in-Some.fields.now) (c.in_ok-copy.field-0, c.in_ok-named.named) c.loop-key.invariant c.in-Some.ensures.steps
    (λ t. (c.in_ok-copy.ensures.ok t, c.in_ok-named.ensures.ok t)) c.in_ok-push.ensures.items

pub returns-clause-ok : goal.returns-clause-ok
returns-clause-ok g c =
    ap Keys (all_made named_entry c.loop-key.entries.items c.loop-key.key-iterator
    (walk_under (g.H.PathHash.hash_of c.args.frozen.now.hash) c.args.prefix c.args.frozen.now.map) c.loop-key.invariant c.in-None.ensures.steps.0)
