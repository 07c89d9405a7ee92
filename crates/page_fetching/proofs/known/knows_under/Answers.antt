use Rattle.std.proofs.Common.{sym, ◌∙◌, ap}
use Rattle.std.specs.List.{list_all}
use Rattle.causal_context.specs.Context.{has}
use Rattle.hash_path.specs.Map.{walk_under}
use Rattle.sync_model.specs.Fetch.{within_fields, within}
use Rattle.page_fetching.proofs.Tests.{still_all, not_all, all_passed}
use Rattle.page_fetching.proofs.known.knows_under.Goals as goal

pub loop-fields-init : goal.loop-fields-init
loop-fields-init g c = ap (list_all (λ e. within_fields (has c.args.known.now) e.1))
    (sym (c.into_iter-fields-iterator.ensures.into_iter_gives ∙ c.iter_under-fields-items.ensures))

pub returns-then-not-knows_fields : goal.returns-then-not-knows_fields
returns-then-not-knows_fields g c =
    not_all (λ e. within_fields (has c.args.known.now) e.1)
    (within (has c.args.known.now) (walk_under (g.H.PathHash.hash_of c.args.frozen.now.hash) c.args.prefix c.args.frozen.now.map))
    c.loop-fields.fields-iterator c.next.new.self (c.in-Some.field-0-0.now, c.in-Some.fields.now) c.loop-fields.invariant c.in-Some.ensures.steps
    (ap (within_fields (has c.args.known.now)) (sym c.entries.ensures.rest) ∙ sym c.knows_fields.ensures ∙ c.if-not-knows_fields.true)

pub loop-fields-preserved : goal.loop-fields-preserved
loop-fields-preserved g c =
    still_all (λ e. within_fields (has c.args.known.now) e.1)
    (within (has c.args.known.now) (walk_under (g.H.PathHash.hash_of c.args.frozen.now.hash) c.args.prefix c.args.frozen.now.map))
    c.loop-fields.fields-iterator c.next.new.self (c.in-Some.field-0-0.now, c.in-Some.fields.now) c.loop-fields.invariant c.in-Some.ensures.steps
    (ap (within_fields (has c.args.known.now)) (sym c.entries.ensures.rest) ∙ sym c.knows_fields.ensures ∙ c.if-not-knows_fields.false)

pub returns : goal.returns
returns g c =
    all_passed (λ e. within_fields (has c.args.known.now) e.1)
    (within (has c.args.known.now) (walk_under (g.H.PathHash.hash_of c.args.frozen.now.hash) c.args.prefix c.args.frozen.now.map))
    c.loop-fields.fields-iterator c.loop-fields.invariant c.in-None.ensures.steps.0
