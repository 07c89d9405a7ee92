use Rattle.std.proofs.Common.{sym, ◌∙◌, ap}
use Rattle.std.specs.List.{list_all}
use Rattle.hash_path.specs.Word.{begins}
use Rattle.hash_path.specs.Map.{path}
use Rattle.wire_form.specs.Page as form
use Rattle.sync_model.specs.Fetch.{entries_of}
use Rattle.page_fetching.proofs.fitting.keys_are_under.Goals as goal

pub returns-in-Keys : goal.returns-in-Keys
returns-in-Keys g c =
    c.are_under.ensures ∙ ap (list_all (λ e. begins c.args.prefix (path (g.H.PathHash.hash_of c.args.hash) e.0))) c.deref.ensures.value
    ∙ ap (λ page. list_all (λ e. begins c.args.prefix (path (g.H.PathHash.hash_of c.args.hash) e.0)) (entries_of (form.value_of page))) (sym c.in-Keys.is)
