use Rattle.std.proofs.Common.{Some, sym, ap, ◌∙◌, arith}
use Rattle.prefix_digest.proofs.Parted.{page_none, page_one, page_list, page_branch}
use Rattle.prefix_digest.proofs.pages.page_value.Goals as goal

pub returns-in-Nothing-clause-ok : goal.returns-in-Nothing-clause-ok
returns-in-Nothing-clause-ok g c =
    sym (page_none (g.H.PathHash.hash_of c.args.frozen.now.hash) c.args.frozen.now.map c.args.prefix
    (omega (arith, c.depth-depth.ensures.length, c.depth-depth.ensures.bound)) c.in-Nothing.ensures)

pub returns-in_ok-one_key-in-OneKey-clause-ok : goal.returns-in_ok-one_key-in-OneKey-clause-ok
returns-in_ok-one_key-in-OneKey-clause-ok g c =
    ap Some c.in_ok-one_key-in-OneKey.ensures.ok
    ∙ sym (page_one (g.H.PathHash.hash_of c.args.frozen.now.hash) c.args.frozen.now.map c.args.prefix c.in-OneKey.key.now c.in-OneKey.fields.now
    (omega (arith, c.depth-depth.ensures.length, c.depth-depth.ensures.bound)) c.in-OneKey.ensures)

pub returns-in_ok-keys-in-Several-clause-ok : goal.returns-in_ok-keys-in-Several-clause-ok
returns-in_ok-keys-in-Several-clause-ok g c =
    ap Some c.in_ok-keys-in-Several.ensures.ok
    ∙ sym (page_list (g.H.PathHash.hash_of c.args.frozen.now.hash) c.args.frozen.now.map c.args.prefix
    (omega (arith, c.depth-depth.ensures.length, c.if-depth-eq-DEPTHS.true)) c.in-Several.ensures)

pub returns-in_ok-branch-in-Several-2-clause-ok : goal.returns-in_ok-branch-in-Several-2-clause-ok
returns-in_ok-branch-in-Several-2-clause-ok g c =
    ap Some c.in_ok-branch-in-Several-2.ensures.ok
    ∙ sym (page_branch (g.H.PathHash.hash_of c.args.frozen.now.hash) c.args.frozen.now.map c.args.prefix
    (omega (arith, c.depth-depth.ensures.length, c.depth-depth.ensures.bound, c.if-depth-eq-DEPTHS.false)) c.in-Several-2.ensures)
