use Rattle.std.proofs.Common.{◌∙◌, ap, true}
use Rattle.ctrie_api.proofs.ctrie.Ctrie.read_only_snapshot.Goals as goal
use Rattle.ctrie_api.proofs.ctrie.Ctrie.read_only_snapshot.Goals.{in-Writable+in_ok-frozen-in-Writable, in-ReadOnly+in_ok-frozen-in-ReadOnly}

-- src/ctrie.rt
pub returns-clause-ok : goal.returns-clause-ok
returns-clause-ok g c =
    elim c.match-self.branch [
      | in-Writable+in_ok-frozen-in-Writable w ↦
          (rw (← c.self.view_is, w.in-Writable.is) (ap (λ frozen. record { read_only = true; hash = frozen.hash; map = frozen.map })
          (w.frozen-is ∙ w.in_ok-frozen-in-Writable.ensures.ok)))
      | in-ReadOnly+in_ok-frozen-in-ReadOnly w ↦
          (rw (← c.self.view_is, w.in-ReadOnly.is) (ap (λ frozen. record { read_only = true; hash = frozen.hash; map = frozen.map })
          (w.frozen-is ∙ w.in_ok-frozen-in-ReadOnly.ensures.ok)))
    ]
