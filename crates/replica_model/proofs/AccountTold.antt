-- What an account tells of a world, and how an event goes on with it.
use Rattle.std.proofs.Common.{◌≡◌, ◌≢◌, ℕ, ◌+◌, ◌≤◌, ◌==◌, List, [], ◌∷◌, ◌++◌, map, length, Bool, cond, refl, sym, ap, ◌∙◌, subst}
use Rattle.std.proofs.Common.{arith, length-append, eq-eqb}
use Rattle.std.specs.Prelude.{◌↔◌, Contains}
use Rattle.std.specs.List.{repeat}
use Rattle.std.proofs.lemmas.List.{length-map, map-append}
use Rattle.std.proofs.lemmas.Bool.{ne_eqb}
use Rattle.dots.specs.Dot.{DotValue}
use Rattle.op_model.specs.Operation.{Operation}
use Rattle.op_model.proofs.Members.{nothing_in, at_head, in_tail, from_map}
use Rattle.prefix_digest.specs.MapOf.{map_of}
use Rattle.wire_form.specs.Session.{SessionValue}
use Rattle.sync_model.specs.Differ.{Held}
use Rattle.replica_model.specs.Mail.{Mail, Ask}
use Rattle.replica_model.specs.Replica.{Replica, Kept}
use Rattle.replica_model.specs.Delivery.{asks_for}
use Rattle.replica_model.specs.World.{World, Message, snapshot_with, sent_as, goes, Unclashed}
use Rattle.replica_model.specs.Seen.{Account}
use Rattle.replica_model.proofs.Found.{in_one}
use Rattle.replica_model.proofs.Carried.{Ties, by_name}
use Rattle.replica_model.proofs.Fronts.{SendsAny}
use Rattle.replica_model.proofs.AccountMet.{ArePages, CleanMet, CleanClosed}
use Rattle.replica_model.proofs.AccountKept.{kept_as}

-- what is said of a snapshot: nothing; and of an ask: its map is that of what is told that its asker had seen, and its number was given out
abbrev pub AnySnap : SessionValue → List Operation → Held → (DotValue → Bool) → Type 0
AnySnap s S m c = Unit {0}

abbrev pub AskedAs : (SessionValue → List Operation) → World → ℕ → SessionValue → Held → (DotValue → Bool) → Type 0
AskedAs asked w n s own known = (own ≡ map_of (asked s)) × (s.asker ≡ n) × (s.number ≤ (w.replica n).opened)

-- at this name, and at another
pub at_name : {X : Type 0} (name : ℕ) (x y : X) → cond (name == name) x y ≡ x
at_name name x y = ap (λ b. cond b x y) (eq-eqb name name refl)

pub at_other : {X : Type 0} (n name : ℕ) (x y : X) → n ≢ name → cond (n == name) x y ≡ y
at_other n name x y apart = ap (λ b. cond b x y) (ne_eqb n name apart)

module _ (hash_of : List ℕ → ℕ) where
  abbrev pub AskedTies : (SessionValue → List Operation) → World → World → Type 0
  AskedTies asked v w = Ties hash_of AnySnap (AskedAs asked v) (SendsAny hash_of) w

  pub record IsTold (a : Account) (w : World) : Type 0 where
    pub nodes : a.nodes ≡ w.nodes
    pub seen : a.seen ≡ w.seen
    pub unsent : a.unsent ≡ w.outgoing
    pub carried : a.carried ≡ map (λ (m : Message). m.of.seen) w.messages
    pub kept : (n : ℕ) → a.kept n ≡ map (kept_as w.kept) (w.replica n).kept
    pub opened : (s : SessionValue) → a.opened s ≡ (w.accepted s).seen
    pub pages : (s : SessionValue) → ArePages (a.pages s) (w.taken s)
    pub asked : Unclashed hash_of w → AskedTies a.asked w w
    pub clean : CleanMet hash_of a.met ↔ CleanClosed hash_of w.closed

  -- the account after an event, and the sets that followed, with the one replica that is new; all but what is sent and what was asked
  pub record Follows (b : Account) (u : World) (name : ℕ) (new : Replica) : Type 0 where
    pub nodes : b.nodes ≡ u.nodes
    pub seen : b.seen ≡ u.seen
    pub unsent : b.unsent ≡ u.outgoing
    pub here : b.kept name ≡ map (kept_as u.kept) new.kept
    pub there : (n : ℕ) → n ≢ name → b.kept n ≡ map (kept_as u.kept) (u.replica n).kept
    pub opened : (s : SessionValue) → b.opened s ≡ (u.accepted s).seen
    pub pages : (s : SessionValue) → ArePages (b.pages s) (u.taken s)
    pub clean : CleanMet hash_of b.met ↔ CleanClosed hash_of u.closed

  -- nothing but the account's asks and the replica's live state, group and sessions changed
  pub unmoved : (a : Account) (w : World) (name : ℕ) (new : Replica) → IsTold a w → new.kept ≡ (w.replica name).kept → Follows a w name new
  unmoved a w name new told same = record {
    nodes = told.nodes;
    seen = told.seen;
    unsent = told.unsent;
    here = told.kept name ∙ ap (map (kept_as w.kept)) (sym same);
    there = λ n apart. told.kept n;
    opened = told.opened;
    pages = told.pages;
    clean = told.clean;
  }

-- all that is sent stands for these operations
abbrev pub AllCarry : List Operation → (SessionValue → List Operation) → List Kept → List Mail → List Operation → Type 0
AllCarry group kept ks out S = (x : Mail) → Contains out x → (snapshot_with group kept ks x).seen ≡ S

module _ (group : List Operation) (kept : SessionValue → List Operation) (ks : List Kept) where
  pub none_carries : (S : List Operation) → AllCarry group kept ks [] S
  none_carries S x there = nothing_in x there

  pub one_carries : (mail : Mail) (S : List Operation) → (snapshot_with group kept ks mail).seen ≡ S → AllCarry group kept ks (mail ∷ []) S
  one_carries mail S is x there = ap (λ y. (snapshot_with group kept ks y).seen) (in_one mail x there) ∙ is

  -- asks carry nothing
  pub asks_carry : (s : SessionValue) (prefixes : List (List ℕ)) → AllCarry group kept ks (asks_for s prefixes) []
  asks_carry s prefixes x there = let found = from_map (Ask s) prefixes x there in ap (λ y. (snapshot_with group kept ks y).seen) (sym found.2)

carried_alike : (group : List Operation) (kept : SessionValue → List Operation) (ks : List Kept) (out : List Mail) (S : List Operation)
    → AllCarry group kept ks out S → map (λ (m : Message). m.of.seen) (map (sent_as group kept ks) out) ≡ repeat (length out) (S ∷ [])
carried_alike group kept ks [] S all = refl
carried_alike group kept ks (x ∷ out) S all =
    let first = all x (at_head x out) in
    let others = carried_alike group kept ks out S (λ y h. all y (in_tail x out y h)) in
    λ i. first i ∷ others i

module _ (hash_of : List ℕ → ℕ) (a b : Account) (w u : World) (name : ℕ) (new : Replica) (out : List Mail) (group S : List Operation) (sent : ℕ)
    (told : IsTold hash_of a w) (same : u.messages ≡ w.messages) (follows : Follows hash_of b u name new) (all : AllCarry group u.kept new.kept out S) where
  abbrev after : World
  after = goes name new out group u

  -- as many were sent
  sent_is : length after.messages ≡ length w.messages + sent → sent ≡ length out
  sent_is count =
      let f = sent_as group u.kept new.kept in
      let before : length u.messages ≡ length w.messages = ap length same in
      omega (arith, count, before, length-append u.messages (map f out), length-map out f)

  carried_then : length after.messages ≡ length w.messages + sent
      → a.carried ++ repeat sent (S ∷ []) ≡ map (λ (m : Message). m.of.seen) after.messages
  carried_then count =
      let f = sent_as group u.kept new.kept in
      let seen_of : Message → List Operation = λ m. m.of.seen in
      let number = sent_is count in
      let alike = carried_alike group u.kept new.kept out S all in
      (λ i. told.carried i ++ repeat (number i) (S ∷ []))
      ∙ (λ i. map seen_of (sym same i) ++ sym alike i)
      ∙ sym (map-append seen_of u.messages (map f out))

  pub told_next : (v : World) → v ≡ after → length v.messages ≡ length w.messages + sent → (Unclashed hash_of after → AskedTies hash_of b.asked after after)
      → IsTold hash_of (record b { carried = a.carried ++ repeat sent (S ∷ []) }) v
  told_next v e count asked =
      subst (IsTold hash_of (record b { carried = a.carried ++ repeat sent (S ∷ []) })) (sym e) (record {
        nodes = follows.nodes;
        seen = follows.seen;
        unsent = follows.unsent;
        carried = carried_then (ap (λ (x : World). length x.messages) (sym e) ∙ count);
        kept = by_name (λ n r. b.kept n ≡ map (kept_as u.kept) r.kept) name new u.replica follows.here follows.there;
        opened = follows.opened;
        pages = follows.pages;
        asked = asked;
        clean = follows.clean;
      })
