use Rattle.std.proofs.Common.{◌≡◌, [], ◌∷◌, ◌++◌, ap, ◌∙◌, arith}
use Rattle.hash_path.specs.Summary.{present}
use Rattle.wire_form.specs.Page.{Branch}
use Rattle.prefix_digest.specs.Page.{digest_at}
use Rattle.prefix_digest.proofs.Parted.{present_next}
use Rattle.prefix_digest.proofs.pages.branch.Goals as goal

pub loop-index-preserved : goal.loop-index-preserved
loop-index-preserved g c =
    present_next c.loop-index.index (λ i. digest_at (g.H.PathHash.hash_of c.args.frozen.now.hash) c.args.frozen.now.map (c.args.prefix ++ i ∷ []))
    c.loop-index.children.items c.add_child.new.children.items c.child_digest-digest.result c.loop-index.invariant c.child_digest-digest.ensures
    c.in_ok-add_child.ensures.ok

pub returns-clause-ok : goal.returns-clause-ok
returns-clause-ok g c =
    let all : c.loop-index.index ≡ 32 = omega (arith, c.loop-index-test.false, c.loop-index.auto.index-end) in
    ap Branch (c.loop-index.invariant
    ∙ ap (λ n. present 0 n (λ i. digest_at (g.H.PathHash.hash_of c.args.frozen.now.hash) c.args.frozen.now.map (c.args.prefix ++ i ∷ []))) all)
