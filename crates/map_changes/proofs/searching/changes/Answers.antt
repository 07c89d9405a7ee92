use Rattle.std.proofs.Common.{◌≡◌, inl, inr, ◌≤◌, sym, subst, List, ℕ, arith}
use Rattle.std.specs.Prelude.{Contains}
use Rattle.map_changes.specs.Searching.{Covers, AreLong}
use Rattle.map_changes.proofs.Levels.{none_past}
use Rattle.map_changes.proofs.searching.changes.Goals as goal

pub loop-preserved : goal.loop-preserved
loop-preserved g c =
    let here = c.in_ok-level-2.ensures in (
      here.found.ascending c.loop.invariant.0,
      λ key there same. elim (here.found.only key there) [
        | inl before ↦ c.loop.invariant.1 key before same
        | inr differs ↦ differs same
      ],
      λ h no_clash. here.covers h no_clash
          (subst (Covers (g.H.PathHash.hash_of c.args.older.now.hash) c.args.older.now.map c.args.newer.now.map c.loop.found.keys)
          (sym c.as_slice.ensures.value) (c.loop.invariant.2 h no_clash)),
      subst (λ d. AreLong d c.in_ok-level-2.level.items) (omega arith)
          (here.long c.loop.counter (subst (AreLong c.loop.counter) (sym c.as_slice.ensures.value) c.loop.invariant.3)),
    )

pub returns-clause-all : goal.returns-clause-all
returns-clause-all g c = λ h no_clash key differs.
    let most : 8 ≤ c.loop.counter = c.loop-test.false in
    let end = c.loop.auto.counter-end in
    let past : c.loop.counter ≡ 8 = omega (arith, most, end) in
    let found = none_past (g.H.PathHash.hash_of c.args.older.now.hash) c.args.older.now.map c.args.newer.now.map c.loop.found.keys c.loop.level.items
    (subst (λ d. AreLong d c.loop.level.items) past c.loop.invariant.3)
    (c.loop.invariant.2 h no_clash) key differs in
    subst (λ keys. Contains keys key) (sym c.in_ok-listed.ensures) found
