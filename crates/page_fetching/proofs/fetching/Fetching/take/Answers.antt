use Rattle.std.proofs.Common.{◌∙◌, ap}
use Rattle.std.specs.Str.{bytes_eq}
use Rattle.std.specs.Option.{option_map}
use Rattle.std.specs.FinMap as finite
use Rattle.causal_context.specs.Context.{has}
use Rattle.prefix_digest.specs.Page.{digest_of}
use Rattle.sync_model.specs.Fetch.{entries_of}
use Rattle.sync_model.specs.Filled.{filled}
use Rattle.page_fetching.specs.Taking.{fetch_of}
use Rattle.page_fetching.proofs.Took.{page_took}
use Rattle.page_fetching.proofs.fetching.Fetching.take.Goals as goal

pub returns-clause-ok : goal.returns-clause-ok
returns-clause-ok g c =
    page_took (g.H.PathHash.hash_of c.args.own.now.hash) c.args.own.now.map (has c.args.seen.now) (has c.args.known.now) (fetch_of c.args.self.now)
    c.args.sent.now.prefix c.args.sent.now.page c.args.sent.now.values
    c.in_ok-digest.field-0 c.in-Some.digest c.is_promised.result c.fits.result (option_map (λ es. es.items) c.in_ok-entries.field-0) c.in-Some-2.entries.items
    (fetch_of c.in_ok-next.next)
    (c.in_ok-digest.ensures.ok ∙ (λ k. finite.get (c.waiting.ensures.map k) (c.prefix.ensures k))) c.in-Some.is
    (c.is_promised.ensures ∙ ap (λ page. bytes_eq c.in-Some.digest (digest_of page)) c.page.ensures.page)
    c.if-not-is_promised.false c.fits.ensures c.if-not-fits.false
    (c.in_ok-entries.ensures.ok ∙ (λ k. filled (has c.args.seen.now) c.args.own.now.map (entries_of (c.page-2.ensures.page k)) (c.values.ensures k)))
    (ap (option_map (λ es. es.items)) c.in-Some-2.is)
    c.in_ok-next.ensures.waiting c.in_ok-next.ensures.built
