use Rattle.std.proofs.Common.{sym, ◌∙◌, ap}
use Rattle.wire_form.specs.Page as form
use Rattle.sync_model.specs.Fetch.{children_of}
use Rattle.page_fetching.proofs.Removing.{no_child_clears, listed_clears}
use Rattle.page_fetching.proofs.clearing.clear_for.Goals as goal

pub returns-in_ok-clear_under-in-OneKey-clause-entries : goal.returns-in_ok-clear_under-in-OneKey-clause-entries
returns-in_ok-clear_under-in-OneKey-clause-entries g c =
    no_child_clears (g.H.PathHash.hash_of c.args.before.now.hash) c.prefix-prefix.result c.args.sent.now.prefix c.args.sent.now.page c.args.before.now.map
    c.args.draft.now.entries c.clear_under.new.draft.entries
    c.prefix-prefix.ensures c.requires (ap children_of (sym c.page.ensures.page ∙ ap form.value_of c.in-OneKey.is))
    c.in_ok-clear_under-in-OneKey.ensures.entries

pub returns-in_ok-clear_under-in-Keys-clause-entries : goal.returns-in_ok-clear_under-in-Keys-clause-entries
returns-in_ok-clear_under-in-Keys-clause-entries g c =
    no_child_clears (g.H.PathHash.hash_of c.args.before.now.hash) c.prefix-prefix.result c.args.sent.now.prefix c.args.sent.now.page c.args.before.now.map
    c.args.draft.now.entries c.clear_under-in-Keys.new.draft.entries
    c.prefix-prefix.ensures c.requires (ap children_of (sym c.page.ensures.page ∙ ap form.value_of c.in-Keys.is)) c.in_ok-clear_under-in-Keys.ensures.entries

pub returns-in_ok-clear_unlisted-in-Branch-clause-entries : goal.returns-in_ok-clear_unlisted-in-Branch-clause-entries
returns-in_ok-clear_unlisted-in-Branch-clause-entries g c =
    listed_clears (g.H.PathHash.hash_of c.args.before.now.hash) c.prefix-prefix.result c.args.sent.now.prefix c.args.sent.now.page c.args.before.now.map
    c.args.draft.now.entries c.clear_unlisted.new.draft.entries
    c.deref.result.now c.prefix-prefix.ensures c.requires (ap children_of (sym c.page.ensures.page ∙ ap form.value_of c.in-Branch.is)
    ∙ sym c.deref.ensures.value) c.in_ok-clear_unlisted-in-Branch.ensures.entries
