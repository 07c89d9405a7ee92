-- Digests as the three calls of a summary.
use Rattle.std.specs.Prelude.{map}
use Rattle.causal_join.specs.OrMap.{FieldsValue}
use Rattle.wire_form.specs.Page.{PageValue, OneKey, Keys, Branch}
use Rattle.hash_path.specs.Summary.{SummaryCalls}
use Rattle.prefix_digest.specs.declared.sha_summary.ShaSummary.{ShaSummary}
use Rattle.prefix_digest.specs.Page.{named_entry, named_entries, digest_of}

abbrev pub of_page : PageValue → ShaSummary
of_page page = record { digest = digest_of page }

abbrev pub sha_calls : SummaryCalls FieldsValue ShaSummary
sha_calls = record {
  leaf = λ key fields. of_page (OneKey (named_entry (key, fields)));
  list = λ entries. of_page (Keys (named_entries entries));
  branch = λ children. of_page (Branch (map (λ child. (child.0, child.1.digest)) children));
}
