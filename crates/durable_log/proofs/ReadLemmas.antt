-- What the one query shows.
use Rattle.std.proofs.Common.{◌≡◌, ◌⊎◌, inl, inr, ℕ, ℤ, pos, negsuc, List, [], ◌∷◌, ◌++◌, map, flat_map, codes, Bool, true, false, Some, None, Ok, Err, Result}
use Rattle.std.proofs.Common.{IfOk, OnOk, refl, sym, ap, subst, subst₂, ◌∙◌, append-nil}
use Rattle.std.specs.List.Sorted.{IsPermutation}
use Rattle.std.proofs.lemmas.List.Sorted.{IsPermutation-map}
use Rattle.sqlite.specs.declared.types.Value.TheVariants.{Int, Null}
use Rattle.sqlite.specs.Order.{Row, column, bytes}
use Rattle.sqlite.specs.Term.{Term, lit, col, Env}
use Rattle.sqlite.specs.Query.{Query, inner, end, IsAnswer, output, page, Output}
use Rattle.sqlite.specs.Program.{overlay}
use Rattle.sqlite.specs.Command.TheVariants.{Select}
use Rattle.sqlite_tied.specs.Compute.{everything}
use Rattle.sqlite_trees.specs.Tree.{Trees}
use Rattle.sqlite.specs.declared.error.Error.{Error}
use Rattle.sqlite.specs.Listing.{understood, reads_listing}
use Rattle.sqlite.specs.Effect.{Database}
use Rattle.sqlite.specs.State.{State, Shown, IsUnchanged, CommitsShowing}
use Rattle.sqlite.proofs.Callers.{IsPlain, command_of, reads_as}
use Rattle.durable_log.specs.Log.{log_schema, strings}

abbrev pub select_text : List ℕ
select_text = codes "SELECT bytes FROM log"

abbrev query : Query
query = record {
  from = inner 0 end;
  filter = [];
  group = None;
  project = col 1 2 ∷ [];
  distinct = false;
  collations = [];
  order = [];
  limit = lit (Int (negsuc 0));
  offset = lit (Int (pos 0));
}

select_is : (command_of (understood log_schema select_text) ≡ Select (record { lets = []; body = query }) (codes "bytes" ∷ []))
    × (reads_listing log_schema select_text ≡ false)
unfolding understood everything
select_is = (refl, refl)

select_plain : IsPlain (understood log_schema select_text)
unfolding understood everything
select_plain = (refl, refl)

abbrev env_of : Row → Env
env_of r = [] ∷ r ∷ []

envs : (rows : List Row) → flat_map (λ r. env_of r ∷ []) rows ≡ map env_of rows
envs [] = refl
envs (r ∷ rows) = ap (λ l. env_of r ∷ l) (envs rows)

abbrev shown_string : Output → List ℕ
shown_string o = bytes (column o.1 0)

maps : (rows : List Row) → map shown_string (map (output query) (map env_of rows)) ≡ map (λ (r : Row). bytes (column r 2)) rows
maps [] = refl
maps (r ∷ rows) = ap (λ l. bytes (column r 2) ∷ l) (maps rows)

of_rows : (os : List Output) → map (λ (r : Row). bytes (column r 0)) (map (λ (o : Output). o.1) os) ≡ map shown_string os
of_rows [] = refl
of_rows (o ∷ os) = ap (λ l. shown_string o ∷ l) (of_rows os)

pub reads : (old new : State) (rows : List Row) → old.now.schema ≡ log_schema → Shown select_text [] old new rows
    → IsPermutation (strings old.now.trees) (map (λ (r : Row). bytes (column r 0)) rows)
reads old new rows has h =
    let a : IsAnswer query (overlay old.now.trees []) [] rows =
    (reads_as select_text [] old new log_schema has _ select_is.0 select_plain select_is.1 rows h).answer Null in
    let staged : a.staged ≡ map env_of (old.now.trees 0) = a.grouped ∙ envs (old.now.trees 0) in
    let kept : map shown_string a.kept ≡ strings old.now.trees = ap (map shown_string) (a.distinct ∙ ap (map (output query)) staged) ∙ maps (old.now.trees 0) in
    let given : map (λ (r : Row). bytes (column r 0)) rows ≡ map shown_string a.ordered = ap (map (λ (r : Row). bytes (column r 0))) a.shown
    ∙ of_rows a.ordered in
    subst₂ IsPermutation kept (sym given) (IsPermutation-map shown_string _ _ a.same)

pub stays : (old new : State) (rows : List Row) → old.now.schema ≡ log_schema → Shown select_text [] old new rows → IsUnchanged old new
unfolding Shown
stays old new rows has h =
    let known = sym h.1.is ∙ ap (λ s. understood s select_text) has in
    let bare = subst IsPlain (sym known) select_plain in
    (rw bare.0 at h.2).3

pub commits_none : (s : State) (db : Trees) → s.now.schema ≡ log_schema → CommitsShowing select_text [] s db → ⊥
unfolding CommitsShowing
commits_none s db has h =
    let known = sym h.1.is ∙ ap (λ s. understood s select_text) has in
    let bare = subst IsPlain (sym known) select_plain in
    absurd (let e = rw bare.0 at h.2 in cc)

pub ok_then : {X E : Type 0} {P Q : X → Type 0} (r : Result X E) → ((x : X) → P x → Q x) → IfOk r P → IfOk r Q
ok_then (Ok x) f h = f x h
ok_then (Err e) f h = tt

pub ok_gives : {X E : Type 0} {P : X → Type 0} {Q : Type 0} (r : Result X E) → ((x : X) → P x → Q) → IfOk r P → OnOk r Q
ok_gives (Ok x) f h = f x h
ok_gives (Err e) f h = tt

pub ok_both : {X E : Type 0} (R : Type 0) {P Q : Type 0} (r : Result X E) → (P → Q) → OnOk r (R × P) → OnOk r (R × Q)
ok_both R (Ok x) f h = (h.0, f h.1)
ok_both R (Err e) f h = tt
