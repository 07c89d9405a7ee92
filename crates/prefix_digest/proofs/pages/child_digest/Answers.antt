use Rattle.std.proofs.Common.{◌≡◌, ◌⊎◌, ◌<◌, length, sym, ◌∙◌, subst}
use Rattle.hash_path.specs.Path.{last_index}
use Rattle.prefix_digest.proofs.Parted.{digest_past}
use Rattle.prefix_digest.proofs.pages.child_digest.Goals as goal

pub returns-in_err-child : goal.returns-in_err-child
returns-in_err-child g c =
    let p = c.args.prefix in
    let past = subst (λ i. (length p ≡ 7) ⊎ (last_index (length p) < i)) c.from.ensures c.in_err-child.ensures in
    c.from_residual.ensures
    ∙ sym (digest_past (g.H.PathHash.hash_of c.args.frozen.now.hash) c.args.frozen.now.map p (g.H.PathHash.bounded c.args.frozen.now.hash)
    c.args.index c.requires past)
