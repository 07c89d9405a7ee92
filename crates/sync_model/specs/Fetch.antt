-- What an asker does with an opening and with the pages that it takes: a step of two finite maps, the digests that it was
-- promised at the prefixes that it waits for, and what it has built so far, which is its own map at first. Of this project.
use Rattle.std.specs.Prelude.{ℕ, Bool, false, ◌&&◌, ◌||◌, not, List, [], ◌∷◌, ◌++◌, length, get_or, Option, Some, None, cond, nat_eq}
use Rattle.std.specs.List.{filter, list_all, list_any}
use Rattle.std.specs.Str.{bytes_eq}
use Rattle.std.specs.FinMap as finite
use Rattle.dots.specs.Dot.{DotValue}
use Rattle.causal_join.specs.OrMap.{FieldsValue}
use Rattle.hash_path.specs.Path.{prefix_cmp}
use Rattle.hash_path.specs.Word.{begins}
use Rattle.hash_path.specs.Map.{path, walk_under}
use Rattle.wire_form.specs.Page.{EntryValue, PageValue, OneKey, Keys, Branch}
use Rattle.prefix_digest.specs.Page.{digest_of, digest_at}
use Rattle.sync_model.specs.Filled.{filled}
use Rattle.sync_model.specs.Differ.{Held}

abbrev pub Waiting : Type 0
Waiting = finite.FinMap prefix_cmp (List ℕ)

-- what is waited for, and what is built
pub record Fetch : Type 0 where
  pub waiting : Waiting
  pub built : Held

-- what a message comes to: nothing, as it was not waited for; a refusal, as it is not what was promised; or this
pub data Taken : Type 0 where
  Ignored : Taken
  Mismatch : Taken
  Took : Fetch → Taken

-- the entries of a page, and its children
abbrev pub entries_of : PageValue → List EntryValue
entries_of (OneKey e) = e ∷ []
entries_of (Keys es) = es
entries_of (Branch cs) = []

abbrev pub children_of : PageValue → List (ℕ × List ℕ)
children_of (OneKey e) = []
children_of (Keys es) = []
children_of (Branch cs) = cs

-- whether this is the digest
abbrev pub is_digest : Option (List ℕ) → List ℕ → Bool
is_digest None d = false
is_digest (Some e) d = bytes_eq e d

-- whether all dots of these pass the test
abbrev pub within_values : {N : Type 0} → (DotValue → Bool) → List (DotValue × N) → Bool
within_values known = list_all (λ v. known v.0)

abbrev pub within_fields : {N : Type 0} → (DotValue → Bool) → List (List ℕ × List (DotValue × N)) → Bool
within_fields known = list_all (λ f. within_values known f.1)

abbrev pub within : {N : Type 0} → (DotValue → Bool) → List (List ℕ × List (List ℕ × List (DotValue × N))) → Bool
within known = list_all (λ e. within_fields known e.1)

-- the children that have to be asked for, put to what is waited for
abbrev pub put_children : List ℕ → List (ℕ × List ℕ) → Waiting → Waiting
put_children p [] w = w
put_children p (c ∷ cs) w = finite.insert (put_children p cs w) (p ++ c.0 ∷ []) c.1

-- entries put to what is built; one that holds nothing is not put
abbrev pub put_entry : List ℕ → FieldsValue → Held → Held
put_entry key [] m = m
put_entry key (f ∷ fs) m = finite.insert m key (f ∷ fs)

abbrev pub put_entries : List (List ℕ × FieldsValue) → Held → Held
put_entries [] m = m
put_entries (e ∷ es) m = put_entry e.0 e.1 (put_entries es m)

-- whether what is built at a key stays where a page is taken: it is not under the prefix, or the page is a branch with the key's
-- next index
abbrev pub stays : (List ℕ → ℕ) → List ℕ → PageValue → List ℕ → Bool
stays hash_of p page key = not (begins p (path hash_of key)) || list_any (λ c. nat_eq c.0 (get_or (path hash_of key) (length p) 0)) (children_of page)

module _ (hash_of : List ℕ → ℕ) (own : Held) where
  -- whether the digest of a child is the own one, and the children of a branch that have to be asked for
  abbrev pub is_own : List ℕ → ℕ × List ℕ → Bool
  is_own p child = is_digest (digest_at hash_of own (p ++ child.0 ∷ [])) child.1

  abbrev pub to_ask : List ℕ → List (ℕ × List ℕ) → List (ℕ × List ℕ)
  to_ask p = filter (λ c. not (is_own p c))

  -- Whether a page can be that of the peer, whose opening knows these dots: its keys stand under the prefix, and what it tells, and what is
  -- kept of the own map for it, are dots that are known
  abbrev pub fits : (DotValue → Bool) → List ℕ → PageValue → Bool
  fits opened p page =
      list_all (λ e. begins p (path hash_of e.0)) (entries_of page)
      && (within opened (entries_of page) && list_all (λ c. not (is_own p c) || within opened (walk_under hash_of (p ++ c.0 ∷ []) own)) (children_of page))

-- One session at its asker: the hash of keys, the own map when it asked, the dots that it had seen then, and the dots that
-- the opening knows
module _ (hash_of : List ℕ → ℕ) (own : Held) (seen opened : DotValue → Bool) where
  -- what a page makes that fits, with the values that came for its names
  abbrev pub took : Fetch → List ℕ → PageValue → Option (List (List ℕ × FieldsValue)) → Taken
  took f p page None = Mismatch
  took f p page (Some es) = Took (record {
    waiting = put_children p (to_ask hash_of own p (children_of page)) (finite.remove f.waiting p);
    built = put_entries es (finite.retain_keys f.built (stays hash_of p page));
  })

  -- a page that came where this digest was promised
  abbrev pub promised : Fetch → List ℕ → PageValue → List (List ℕ) → Option (List ℕ) → Taken
  promised f p page sent None = Ignored
  promised f p page sent (Some d) =
      cond (bytes_eq d (digest_of page) && fits hash_of own opened p page) (took f p page (filled seen own (entries_of page) sent)) Mismatch

  -- a page that came, with its values
  abbrev pub take_page : Fetch → List ℕ → PageValue → List (List ℕ) → Taken
  take_page f p page sent = promised f p page sent (finite.get f.waiting p)

  -- an opening with this root digest, or none
  abbrev pub take_opening : Option (List ℕ) → Taken
  take_opening None = Took (record { waiting = finite.empty; built = finite.empty })
  take_opening (Some d) =
      cond (is_digest (digest_at hash_of own []) d)
      (cond (within opened (walk_under hash_of [] own)) (Took (record { waiting = finite.empty; built = own })) Mismatch)
      (Took (record { waiting = finite.insert finite.empty [] d; built = own }))
