-- Pages and digests: what a finite map tells of itself at a prefix of hash paths. Of this project; a digest is the SHA-256
-- (FIPS 180-4) of a page, and so is the name of a value of the value.
--
-- A page tells all of one key, or of the keys of one hash, and else one digest for each index that goes on: so two replicas
-- find what differs by comparing digests from the root down. Equal maps have equal pages, since nothing but the entries is
-- told, and a value is told by its name, so that it is sent only to who lacks it.
use Rattle.std.specs.Prelude.{ℕ, zero, suc, List, [], ◌∷◌, map, Option, Some, None}
use Rattle.std.specs.Option.{option_map}
use Rattle.std.specs.FinMap as finite
use Rattle.dots.specs.Bytes.{bytes_cmp}
use Rattle.sha2.specs.Sha256.{sha256}
use Rattle.causal_join.specs.OrMap.{ValuesValue, FieldsValue}
use Rattle.wire_form.specs.Page.{NamesValue, NamedValue, EntryValue, PageValue, OneKey, Keys, Branch, spelled}
use Rattle.hash_path.specs.Word.{key_in}
use Rattle.hash_path.specs.Map.{by_key, by_path}
use Rattle.hash_path.specs.Summary.{under_index, present}

-- the values of a field by their names, and the fields of a key with their values by their names
abbrev pub named_values : ValuesValue → NamesValue
named_values = map (λ v. (v.0, sha256 v.1))

abbrev pub named_fields : FieldsValue → NamedValue
named_fields = map (λ f. (f.0, named_values f.1))

-- the same of an entry, and of each of several
abbrev pub named_entry : List ℕ × FieldsValue → EntryValue
named_entry e = (e.0, named_fields e.1)

abbrev pub named_entries : List (List ℕ × FieldsValue) → List EntryValue
named_entries = map named_entry

-- the digest of a page
abbrev pub digest_of : PageValue → List ℕ
digest_of page = sha256 (spelled page)

-- The page of entries by word, where so many indices are left, if there are any entries: of one key alone, at any prefix; of
-- several keys past the last index, by key bytes; and of several keys before it, by the digests of the pages one index
-- further.
abbrev pub page : ℕ → List EntryValue → Option PageValue
page height [] = None
page height (e ∷ []) = Some (OneKey (key_in height e.0, e.1))
page zero (e ∷ f ∷ es) = Some (Keys (by_key 0 (e ∷ f ∷ es)))
page (suc below) (e ∷ f ∷ es) = Some (Branch (present 0 32 (λ i. option_map digest_of (page below (under_index i (e ∷ f ∷ es))))))

-- the same of the entries whose word begins with a prefix
abbrev pub page_under : List ℕ → ℕ → List EntryValue → Option PageValue
page_under [] height es = page height es
page_under (i ∷ p) zero es = None
page_under (i ∷ p) (suc below) es = page_under p below (under_index i es)

-- the page and the digest of a finite map at a prefix
abbrev pub page_at : (List ℕ → ℕ) → finite.FinMap bytes_cmp FieldsValue → List ℕ → Option PageValue
page_at hash_of m prefix = page_under prefix 7 (named_entries (by_path hash_of m))

abbrev pub digest_at : (List ℕ → ℕ) → finite.FinMap bytes_cmp FieldsValue → List ℕ → Option (List ℕ)
digest_at hash_of m prefix = option_map digest_of (page_at hash_of m prefix)
