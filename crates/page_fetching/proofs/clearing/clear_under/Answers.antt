use Rattle.std.proofs.Common.{sym, subst}
use Rattle.hash_path.specs.Word.{begins}
use Rattle.hash_path.specs.Map.{path}
use Rattle.page_fetching.specs.Building.{GoesWhere}
use Rattle.page_fetching.proofs.Removing.{gone_under}
use Rattle.page_fetching.proofs.clearing.clear_under.Goals as goal

pub returns-clause-entries : goal.returns-clause-entries
returns-clause-entries g c =
    subst (GoesWhere (λ key. begins c.args.prefix (path (g.H.PathHash.hash_of c.args.before.now.hash) key)) c.args.before.now.map c.args.draft.now.entries)
    (sym c.in_ok-clear_keys.ensures.entries)
    (gone_under (g.H.PathHash.hash_of c.args.before.now.hash) c.args.prefix c.args.before.now.map c.args.draft.now.entries)
