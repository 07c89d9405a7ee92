use Rattle.page_fetching.proofs.Going.{goes_on_itself, goes_further}
use Rattle.page_fetching.proofs.Removing.{none_yet, one_further, all_children}
use Rattle.page_fetching.proofs.clearing.clear_unlisted.Goals as goal

pub loop-index-init : goal.loop-index-init
loop-index-init g c = (
  none_yet (g.H.PathHash.hash_of c.args.before.now.hash) c.args.prefix c.args.children.now c.args.before.now.map c.args.draft.now.entries,
  goes_on_itself c.args.draft.now,
)

pub loop-index-preserved : goal.loop-index-preserved
loop-index-preserved g c = (
  one_further (g.H.PathHash.hash_of c.args.before.now.hash) c.args.prefix c.args.children.now c.args.before.now.map c.args.draft.now.entries c.loop-index.index
      c.loop-index.draft.entries c.clear_child.new.draft.entries
      c.loop-index.invariant.0 c.in_ok-clear_child.ensures.entries,
  goes_further c.args.draft.now c.loop-index.draft c.clear_child.new.draft c.loop-index.invariant.1 c.in_ok-clear_child.ensures.further,
)

pub returns-clause-entries : goal.returns-clause-entries
returns-clause-entries g c = all_children (g.H.PathHash.hash_of c.args.before.now.hash)
    c.args.prefix c.args.children.now c.args.before.now.map c.args.draft.now.entries c.loop-index.index c.loop-index.draft.entries c.requires
    c.loop-index-test.false c.loop-index.invariant.0
