use Rattle.std.proofs.Common.{◌≡◌, ℕ, List, Some, ◌∙◌, ap, sym, refl}
use Rattle.std.specs.FinMap as finite
use Rattle.std.specs.Option.{option_map}
use Rattle.causal_context.specs.Context.{has}
use Rattle.causal_join.specs.OrMap.{FieldsValue}
use Rattle.wire_form.specs.Message.{message_of}
use Rattle.wire_form.specs.Page.{value_of}
use Rattle.sync_protocol.specs.Answering.{page_of}
use Rattle.sync_protocol.specs.Snapshot.{SnapshotValue}
use Rattle.sync_protocol.proofs.NamedFields.{fields_filled}
use Rattle.sync_protocol.proofs.Standing.{sendable, page_told}
use Rattle.sync_protocol.proofs.snapshot.Snapshot.page.Goals as goal

pub unreachable-requires : goal.unreachable-requires
unreachable-requires g c =
    let hash = c.frozen-frozen.result.now.hash in
    let is = sym (ap (option_map value_of) c.in-Some.is) ∙ c.in_ok-page.ensures.ok in
    let filled = λ (key : List ℕ) (held : FieldsValue) (there : finite.get c.self.inside.store.1 key ≡ Some held).
    let in_it = ap (λ m. finite.get m key) c.frozen-frozen.ensures.map ∙ there in
    fields_filled held (c.frozen-frozen.ensures.canonical key held in_it).filled (c.frozen-frozen.ensures.filled key held in_it) in
    c.in-None.ensures.unlawful.0 refl
    (sendable (g.H.PathHash.hash_of hash) (g.H.PathHash.bounded hash) c.self.inside.store.1 filled (has c.self.inside.seen)
    c.args.prefix c.frozen-frozen.result.now.map c.in_ok-values.values.items
    (value_of c.in-Some.page) c.frozen-frozen.ensures.map c.in_ok-values.ensures.ok is)

pub returns-clause-ok : goal.returns-clause-ok
returns-clause-ok g c =
    let k : SnapshotValue _ = record {
      seen = c.self.inside.seen;
      hash = c.self.inside.store.0;
      map = c.self.inside.store.1;
      context = c.self.inside.context;
    } in
    let is = sym (ap (option_map value_of) c.in-Some.is) ∙ c.in_ok-page.ensures.ok in
    page_told g.H.PathHash.hash_of k c.args.session c.args.prefix c.frozen-frozen.result.now.hash c.frozen-frozen.result.now.map c.in_ok-values.values.items
    (value_of c.in-Some.page)
    (message_of c.in-Some-page.message) c.frozen-frozen.ensures.hash c.frozen-frozen.ensures.map c.in-Some-page.ensures.page c.in_ok-values.ensures.ok is
    ∙ ap (λ (v : SnapshotValue _). page_of g.H.PathHash.hash_of c.args.session v c.args.prefix) c.self.view_is
