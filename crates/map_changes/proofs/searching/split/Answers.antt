use Rattle.std.proofs.Common.{sym, ap}
use Rattle.map_changes.proofs.Levels.{on_ok, on_ok_both, finds_back, finds_more, found_or_none, both_gathered}
use Rattle.map_changes.proofs.searching.split.Goals as goal

pub returns-then-not-is_few-clause-covers : goal.returns-then-not-is_few-clause-covers
returns-then-not-is_few-clause-covers g c =
    on_ok c.children.result c.children.ensures.covers
    (λ f h no_clash.
    found_or_none (g.H.PathHash.hash_of c.args.older.now.hash) c.args.older.now.map c.args.newer.now.map c.args.prefix c.args.found.now.keys
    c.children.new.next.items (f h no_clash))

pub returns-clause-found : goal.returns-clause-found
returns-clause-found g c =
    let older = c.args.older.now.map in
    let newer = c.args.newer.now.map in
    on_ok c.gather-2.result c.gather-2.ensures.found
    (λ f. finds_more older newer c.args.found.now.keys c.gather.new.found.keys c.gather-2.new.found.keys c.in_ok-gather.ensures.found
    (finds_back older newer c.gather.new.found.keys c.gather-2.new.found.keys f))

pub returns-clause-covers : goal.returns-clause-covers
returns-clause-covers g c =
    on_ok_both c.gather-2.result c.gather-2.ensures.found c.gather-2.ensures.each
    (λ finds each h no_clash.
    both_gathered (g.H.PathHash.hash_of c.args.older.now.hash) c.args.older.now.map c.args.newer.now.map (g.H.PathHash.hash_of c.args.newer.now.hash)
    c.args.prefix c.gather.new.found.keys
    c.gather-2.new.found.keys c.args.next.now.items (ap (λ x. g.H.PathHash.hash_of x) (sym h)) c.in_ok-gather.ensures.each each finds)
