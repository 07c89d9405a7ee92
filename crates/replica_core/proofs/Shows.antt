-- What a replica shows.
use Rattle.std.proofs.Common.{◌≡◌, ◌++◌, ℕ, List, [], length, ap, sym, subst}
use Rattle.op_model.specs.Meaning.{MapState, state}
use Rattle.op_model.specs.Operation.{Operation, NoReuse}
use Rattle.op_model.proofs.Fresh.{NoReuse-part}
use Rattle.op_model.proofs.Showing.{values_standing, values_of_key_standing, fields_standing, keys_standing}
use Rattle.prefix_digest.specs.MapOf.{root_digest}
use Rattle.prefix_digest.specs.Page.{digest_at}
use Rattle.prefix_digest.proofs.MapsOf.{map_is}
use Rattle.replica_alone.proofs.Said.{without}
use Rattle.replica_model.specs.Alone.{Deed, RunsAlone, AllSay, brought}
use Rattle.replica_model.specs.World.{World, nothing, Unclashed}
use Rattle.replica_model.proofs.Alone.{seen_alone, headline_alone}
use Rattle.replica_model.proofs.States.{is_same}
use Rattle.replica_core.specs.Showing.{ShowsOperations, ShowsAlone}

pub shows : (hash_of : List ℕ → ℕ) (live : MapState) (S : List Operation) → NoReuse S → live ≡ state S → ShowsOperations hash_of live S
unfolding root_digest
shows hash_of live S once is =
    let same = is_same _ _ is in
    record {
      values = λ place found lists. values_standing S place live found once same lists.ascending lists.just;
      values_of_key = λ key found lists. values_of_key_standing S key live found once same lists.ascending lists.just;
      fields = λ key found lists. fields_standing S key live found same lists.ascending lists.just;
      keys = λ found lists. keys_standing S live found same lists.ascending lists.just;
      size = λ found lists. ap length (keys_standing S live found same lists.ascending lists.just);
      known = ap (λ (p : MapState). p.has) is;
      digest = λ map is_map. ap (λ m. digest_at hash_of m []) (map_is S once map live is_map same);
    }

-- where each message that came says what it stands for
shows_said : (hash_of : List ℕ → ℕ) (name : ℕ) (deeds : List Deed) (w : World) → RunsAlone hash_of name nothing deeds w → AllSay hash_of deeds
    → NoReuse (w.made ++ brought deeds) → Unclashed hash_of w → ShowsOperations hash_of (w.replica name).live (w.seen name)
shows_said hash_of name deeds w runs says once clean =
    shows hash_of (w.replica name).live (w.seen name) (NoReuse-part (w.seen name) (w.made ++ brought deeds)
    (seen_alone hash_of name deeds w runs says once clean) once) (headline_alone hash_of name deeds w runs says once clean).live

pub shows_alone : ShowsAlone
shows_alone hash_of name deeds w runs says once clean =
    let less = without hash_of name deeds nothing w runs says in
    shows_said hash_of name less.deeds w less.runs less.says (subst (λ S. NoReuse (w.made ++ S)) (sym less.brought_is) once) clean
