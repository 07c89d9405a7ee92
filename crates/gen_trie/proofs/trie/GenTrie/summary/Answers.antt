use Rattle.std.proofs.Common.{◌≡◌, ◌↔◌, ℕ, List, length, None, sym, ◌∙◌, ap, subst}
use Rattle.std.specs.declared.option.Option.{Option}
use Rattle.std.specs.FinMap as finite
use Rattle.hash_path.specs.Path.{indices}
use Rattle.hash_path.specs.Map.{by_path}
use Rattle.hash_path.specs.Summary.{summary_at}
use Rattle.hash_path.proofs.Summaries.{summary_none}
use Rattle.gen_trie.specs.Root.{root_entries}
use Rattle.gen_trie.proofs.Sums.{at_root, none_at, none_nowhere}
use Rattle.gen_trie.proofs.trie.GenTrie.summary.Goals as goal

pub returns-in-None-clause-summary : goal.returns-in-None-clause-summary
returns-in-None-clause-summary g c =
    sym (summary_none g.M.Summary.calls c.args.prefix 7)
    ∙ ap (λ root. summary_at g.M.Summary.calls c.args.prefix 7 (root_entries root)) (sym c.in-None.is)
    ∙ at_root g.M.Summary.calls (g.H.PathHash.hash_of c.self.inside.hash) c.self.inside.root c.self.inside.count c.self.invariant.0 c.args.prefix
    ∙ ap (λ x. summary_at g.M.Summary.calls c.args.prefix 7 (by_path (g.H.PathHash.hash_of x.hash) x.map)) c.self.view_is

pub returns-in-Some-clause-summary : goal.returns-in-Some-clause-summary
returns-in-Some-clause-summary g c =
    c.summary_under.ensures.summary ∙ ap (λ root. summary_at g.M.Summary.calls c.args.prefix 7 (root_entries root)) (sym c.in-Some.is)
    ∙ at_root g.M.Summary.calls (g.H.PathHash.hash_of c.self.inside.hash) c.self.inside.root c.self.inside.count c.self.invariant.0 c.args.prefix
    ∙ ap (λ x. summary_at g.M.Summary.calls c.args.prefix 7 (by_path (g.H.PathHash.hash_of x.hash) x.map)) c.self.view_is

pub returns-in-None-clause-none : goal.returns-in-None-clause-none
returns-in-None-clause-none g c =
    subst (λ x. (◌≡◌ {A = Option g.row.M.Denot} None None) ↔ ((key : List ℕ) → indices (length c.args.prefix) (g.H.PathHash.hash_of x.hash key) ≡ c.args.prefix
    → finite.get x.map key ≡ None)) c.self.view_is
    (none_nowhere (g.H.PathHash.hash_of c.self.inside.hash) c.self.inside.root c.args.prefix c.in-None.is)

pub returns-in-Some-clause-none : goal.returns-in-Some-clause-none
returns-in-Some-clause-none g c =
    subst (λ x. (c.summary_under.result ≡ None) ↔ ((key : List ℕ) → indices (length c.args.prefix) (g.H.PathHash.hash_of x.hash key) ≡ c.args.prefix
    → finite.get x.map key ≡ None)) c.self.view_is
    (none_at g.M.Summary.calls (g.H.PathHash.hash_of c.self.inside.hash) c.self.inside.root c.self.inside.count c.self.invariant.0 c.args.prefix
    c.summary_under.result c.summary_under.ensures.short
    (c.summary_under.ensures.summary ∙ ap (λ root. summary_at g.M.Summary.calls c.args.prefix 7 (root_entries root)) (sym c.in-Some.is)))
