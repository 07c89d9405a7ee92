use Rattle.std.proofs.Common.{None, Some, sym, ap, ◌∙◌}
use Rattle.hash_path.specs.Map.{by_path}
use Rattle.prefix_digest.proofs.Digests.{digest_is}
use Rattle.prefix_digest.proofs.pages.digest.Goals as goal

pub returns-in_err-summary-clause-value : goal.returns-in_err-summary-clause-value
returns-in_err-summary-clause-value g c =
    c.from_residual.ensures
    ∙ digest_is None c.args.prefix 7 (by_path (g.H.PathHash.hash_of c.args.frozen.now.hash) c.args.frozen.now.map)
    (sym c.in_err-summary.was ∙ c.summary.ensures.summary)

pub returns-clause-value : goal.returns-clause-value
returns-clause-value g c =
    ap Some c.digest.ensures
    ∙ digest_is (Some c.in_ok-summary.summary) c.args.prefix 7 (by_path (g.H.PathHash.hash_of c.args.frozen.now.hash) c.args.frozen.now.map)
    (sym c.in_ok-summary.was ∙ c.summary.ensures.summary)
