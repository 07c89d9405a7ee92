use Rattle.std.proofs.Common.{refl}
use Rattle.page_fetching.proofs.Removing.{past_child, listed_child, gone_at}
use Rattle.page_fetching.proofs.clearing.clear_child.Goals as goal

pub returns-in_default-clause-entries : goal.returns-in_default-clause-entries
returns-in_default-clause-entries g c =
    past_child (g.H.PathHash.hash_of c.args.before.now.hash) c.args.prefix c.args.children.now c.args.index c.args.before.now.map c.args.draft.now.entries
    c.args.draft.now.entries
    (g.H.PathHash.bounded c.args.before.now.hash) c.requires (rw c.from.ensures at c.in_default.ensures) refl

pub returns-then-lists-clause-entries : goal.returns-then-lists-clause-entries
returns-then-lists-clause-entries g c =
    listed_child (g.H.PathHash.hash_of c.args.before.now.hash) c.args.prefix c.args.children.now c.args.index c.args.before.now.map c.args.draft.now.entries
    c.args.draft.now.entries
    c.lists.result c.lists.ensures c.if-lists.true refl

pub returns-clause-entries : goal.returns-clause-entries
returns-clause-entries g c =
    gone_at (g.H.PathHash.hash_of c.args.before.now.hash) c.in-Some.child c.args.prefix c.from.result c.args.index c.args.children.now c.args.before.now.map
    c.args.draft.now.entries c.clear_under.new.draft.entries
    c.lists.result c.in-Some.ensures c.from.ensures c.lists.ensures c.if-lists.false c.in_ok-clear_under.ensures.entries
