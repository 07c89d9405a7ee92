use Rattle.std.proofs.Common.{◌≡◌, [], ◌∙◌, ap}
use Rattle.prefix_digest.specs.Page.{digest_at}
use Rattle.wire_form.specs.Message.{Opening}
use Rattle.sync_protocol.specs.Answering.{opening_of}
use Rattle.sync_protocol.proofs.snapshot.Snapshot.opening.Goals as goal

pub returns-clause-ok : goal.returns-clause-ok
returns-clause-ok g c =
    let root : c.digest-root.result ≡ digest_at (g.H.PathHash.hash_of c.self.inside.store.0) c.self.inside.store.1 [] =
    c.digest-root.ensures.value ∙ (λ i. digest_at (g.H.PathHash.hash_of (c.frozen.ensures.hash i)) (c.frozen.ensures.map i) (c.root.ensures i)) in
    c.opening.ensures ∙ (λ i. Opening c.args.session (c.in_ok-context.ensures.equal i) (root i))
    ∙ ap (opening_of g.H.PathHash.hash_of c.args.session) c.self.view_is
