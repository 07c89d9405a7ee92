use Rattle.std.proofs.Common.{◌≡◌, ◌∙◌, ◌⊎◌, inl, inr, ◌+◌, ◌<◌, ◌≤◌, ◌++◌, ◌∷◌, [], List, ℕ, suc, Vec, refl, sym, ap, subst, arith}
use Rattle.std.specs.Option.{option_eq}
use Rattle.hash_path.specs.Path.{last_index}
use Rattle.prefix_digest.specs.Page.{digest_at}
use Rattle.prefix_digest.proofs.Parted.{digest_past}
use Rattle.map_changes.specs.Searching.{GoesBelow}
use Rattle.map_changes.proofs.Levels.{AddsChildren, one_child, all_children, none_below, one_below, there_last, there_before, same_digests}
use Rattle.map_changes.proofs.searching.children.Goals.{in-Some+then-ne+in_ok-push, in-Some+else-ne, in_default}
use Rattle.map_changes.proofs.searching.children.Goals as goal

pub loop-index-init : goal.loop-index-init
loop-index-init g c = (λ h i less. absurd (omega (arith, less)), none_below c.args.prefix c.args.next.now.items)

pub loop-index-preserved : goal.loop-index-preserved
loop-index-preserved g c =
    let p = c.args.prefix in
    let index = c.loop-index.index in
    let old = c.loop-index.next.items in
    let hash_of = g.H.PathHash.hash_of c.args.older.now.hash in
    let older = c.args.older.now.map in
    let newer = c.args.newer.now.map in
    let unchanged : c.match-child.next.items ≡ old → (c.args.older.now.hash ≡ c.args.newer.now.hash
    → digest_at hash_of older (p ++ index ∷ []) ≡ digest_at hash_of newer (p ++ index ∷ []))
    → (c.args.older.now.hash ≡ c.args.newer.now.hash → AddsChildren hash_of older newer p (index + 1) c.match-child.next.items)
    × GoesBelow p c.args.next.now.items c.match-child.next.items =
    λ is same.
    subst (λ items. (c.args.older.now.hash ≡ c.args.newer.now.hash → AddsChildren hash_of older newer p (index + 1) items)
    × GoesBelow p c.args.next.now.items items) (sym is) (
      λ h i less. one_child hash_of older newer p index old old (c.loop-index.invariant.0 h) (λ q there. there) (inl (same h)) i (omega (arith, less)),
      c.loop-index.invariant.1,
    ) in
    elim c.match-child.branch [
      | in-Some+then-ne+in_ok-push w ↦
          let is : c.match-child.next.items ≡ old ++ (p ++ index ∷ []) ∷ [] =
          ap (λ (v : Vec _ _). v.items) w.next-is ∙ w.in_ok-push.ensures.items ∙ ap (λ x. old ++ x ∷ []) w.in-Some.ensures in
          subst (λ items. (c.args.older.now.hash ≡ c.args.newer.now.hash → AddsChildren hash_of older newer p (index + 1) items)
          × GoesBelow p c.args.next.now.items items) (sym is) (
            λ h i less.
                one_child hash_of older newer p index old (old ++ (p ++ index ∷ []) ∷ []) (c.loop-index.invariant.0 h)
                (λ q there. there_before p old (p ++ index ∷ []) q there)
                (inr (there_last p old (p ++ index ∷ []))) i (omega (arith, less)),
            one_below p c.args.next.now.items old index c.requires c.loop-index.invariant.1,
          )
      | in-Some+else-ne w ↦
          unchanged (ap (λ (v : Vec _ _). v.items) w.next-is)
          (λ h.
          subst (λ x. digest_at hash_of older x ≡ digest_at hash_of newer x) w.in-Some.ensures
          (sym w.digest.ensures.value ∙ same_digests w.digest.result w.digest-in-Some.result w.if-ne.ensures ∙ w.digest-in-Some.ensures.value
          ∙ ap (λ x. digest_at (g.H.PathHash.hash_of x) newer w.in-Some.child) (sym h)))
      | in_default w ↦
          unchanged (ap (λ (v : Vec _ _). v.items) w.next-is)
          (λ h.
          digest_past hash_of older p (g.H.PathHash.bounded c.args.older.now.hash) index c.requires w.in_default.ensures
          ∙ sym (digest_past hash_of newer p (g.H.PathHash.bounded c.args.older.now.hash) index c.requires w.in_default.ensures))
    ]

pub returns-clause-covers : goal.returns-clause-covers
returns-clause-covers g c = λ h no_clash.
    let most : 32 ≤ c.loop-index.index = c.loop-index-test.false in
    all_children (g.H.PathHash.hash_of c.args.older.now.hash) c.args.older.now.map c.args.newer.now.map c.args.prefix c.loop-index.next.items []
    c.requires no_clash
    (λ i less. c.loop-index.invariant.0 h i (omega (arith, less, most)))
