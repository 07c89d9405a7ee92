use Rattle.std.proofs.Common.{ℕ, List, [], ◌∷◌, map, take, sym, ap, ◌∙◌, subst}
use Rattle.std.specs.List.{flat_map}
use Rattle.std.proofs.lemmas.List.{take_all}
use Rattle.std.proofs.lemmas.List.Folds.{flat_map-map}
use Rattle.sha2.specs.Sha256.{sha256}
use Rattle.std.specs.declared.sync.Arc.{Arc}
use Rattle.gen_trie.specs.declared.entry.Entry.{Entry}
use Rattle.sha2.specs.Hashers.{Holds256}
use Rattle.causal_join.specs.OrMap.{FieldsValue}
use Rattle.wire_form.specs.Page.{entry}
use Rattle.prefix_digest.specs.Page.{named_entry}
use Rattle.prefix_digest.specs.Taking.{TakesBytes}
use Rattle.prefix_digest.proofs.Branches.{one_taken}
use Rattle.prefix_digest.proofs.Taken.{takes_same, item_held}
use Rattle.prefix_digest.proofs.sha_summary.ShaSummarySummaryFields.list.Goals as goal

abbrev entry_bytes : List ℕ × FieldsValue → List ℕ
entry_bytes e = entry (named_entry e)

abbrev shows : {A : Type 0} → Arc (Entry FieldsValue A) A → List ℕ × FieldsValue
shows e = (e.value.key, e.value.value)

pub loop-entry-init : goal.loop-entry-init
loop-entry-init g c = c.new_with_prefix-hasher.ensures

pub loop-entry-preserved : goal.loop-entry-preserved
loop-entry-preserved g c =
    let key = c.bytes.ensures.value ∙ c.key.ensures ∙ ap (λ e. e.key) c.deref.ensures in
    let held = c.value.ensures ∙ ap (λ e. e.value) c.deref-in-loop-entry.ensures in
    let taken : TakesBytes c.loop-entry.hasher c.feed_entry.new.hasher (entry_bytes (shows c.entry-item.result)) =
    takes_same c.loop-entry.hasher c.feed_entry.new.hasher _ (entry_bytes (shows c.entry-item.result)) (λ i. entry_bytes (key i, held i))
    c.feed_entry.ensures in
    subst (λ xs. Holds256 c.feed_entry.new.hasher (1 ∷ flat_map entry_bytes xs))
    (sym (one_taken shows c.args.entries.now c.loop-entry.entry-index c.entry-item.result c.loop-entry-test.true c.entry-item.is))
    (item_held entry_bytes c.loop-entry.hasher c.feed_entry.new.hasher (1 ∷ []) (map shows (take c.loop-entry.entry-index c.args.entries.now))
    (shows c.entry-item.result) c.loop-entry.invariant taken)

pub returns : goal.returns
returns g c =
    ap (λ d. record { digest = d }) (c.finalize.ensures (1 ∷ flat_map entry_bytes (map shows (take c.loop-entry.entry-index c.args.entries.now)))
    c.loop-entry.invariant)
    ∙ ap (λ xs. record { digest = sha256 (1 ∷ flat_map entry_bytes (map shows xs)) })
    (take_all c.loop-entry.entry-index c.args.entries.now c.loop-entry-test.false)
    ∙ ap (λ l. record { digest = sha256 (1 ∷ l) }) (sym (flat_map-map entry named_entry (map shows c.args.entries.now)))
