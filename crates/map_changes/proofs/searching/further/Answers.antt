use Rattle.std.proofs.Common.{◌≡◌, sym, ap, ◌∙◌, subst, take, ◌++◌, ◌∷◌, []}
use Rattle.std.proofs.lemmas.List.{take_all}
use Rattle.map_changes.proofs.Levels.{GoneThrough, AreLonger, nothing_found, finds_more, none_gone, one_gone, all_gone, none_longer, one_longer, taken_one}
use Rattle.map_changes.proofs.searching.further.Goals as goal

pub loop-prefix-init : goal.loop-prefix-init
loop-prefix-init g c =
    let hash_of = g.H.PathHash.hash_of c.args.older.now.hash in
    let older = c.args.older.now.map in
    let newer = c.args.newer.now.map in (
      nothing_found older newer c.args.found.now.keys,
      λ h no_clash. none_gone hash_of older newer c.args.found.now.keys c.new-next.result.items,
      subst (AreLonger c.args.level.now) (sym c.new-next.ensures.items) (none_longer c.args.level.now),
    )

pub loop-prefix-preserved : goal.loop-prefix-preserved
loop-prefix-preserved g c =
    let hash_of = g.H.PathHash.hash_of c.args.older.now.hash in
    let older = c.args.older.now.map in
    let newer = c.args.newer.now.map in
    let level = c.args.level.now in
    let index = c.loop-prefix.prefix-index in
    let prefix = c.prefix-item.result in
    let here = c.in_ok-split.ensures in (
      finds_more older newer c.args.found.now.keys c.loop-prefix.found.keys c.split.new.found.keys c.loop-prefix.invariant.0 here.found,
      λ h no_clash.
          subst (λ gone. GoneThrough hash_of older newer gone c.split.new.found.keys c.split.new.next.items)
          (sym (taken_one level index prefix c.loop-prefix-test.true c.prefix-item.is))
          (one_gone hash_of older newer (take index level) prefix c.loop-prefix.found.keys c.split.new.found.keys c.loop-prefix.next.items
          c.split.new.next.items
          (c.loop-prefix.invariant.1 h no_clash) here.found here.below (here.covers h no_clash)),
      one_longer level prefix c.loop-prefix.next.items c.split.new.next.items (index, c.loop-prefix-test.true, sym c.prefix-item.is)
          here.below c.loop-prefix.invariant.2,
    )

pub returns-clause-covers : goal.returns-clause-covers
returns-clause-covers g c = λ h no_clash covers.
    let hash_of = g.H.PathHash.hash_of c.args.older.now.hash in
    let older = c.args.older.now.map in
    let newer = c.args.newer.now.map in
    let level = c.args.level.now in
    let all = take_all c.loop-prefix.prefix-index level c.loop-prefix-test.false in
    all_gone hash_of older newer level c.args.found.now.keys c.loop-prefix.found.keys c.loop-prefix.next.items c.loop-prefix.invariant.0
    (subst (λ gone. GoneThrough hash_of older newer gone c.loop-prefix.found.keys c.loop-prefix.next.items) all (c.loop-prefix.invariant.1 h no_clash)) covers
