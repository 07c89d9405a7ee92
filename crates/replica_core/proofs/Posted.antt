-- What an outbox has where a replica answered.
use Rattle.std.proofs.Common.{◌≡◌, List, [], ◌∷◌, map, inl, inr, refl, sym, ap, subst}
use Rattle.wire_form.specs.declared.message.Message.{Message}
use Rattle.wire_form.specs.Message.{MessageValue, message_of}
use Rattle.sync_protocol.specs.Posting.{IsPosted}

module _ {A Box : Type 0} (gains : Box → Box → List MessageValue → Type 0) where
  -- nothing was sent
  pub posted_none : (box : Box) (replies : List (Message A)) → replies ≡ [] → IsPosted gains box box (map message_of replies)
  posted_none box replies none = inr (refl, ap (map message_of) none)

  -- one message was
  pub posted_one : (old new : Box) (m : Message A) (replies : List (Message A)) → gains old new (message_of m ∷ []) → replies ≡ m ∷ []
      → IsPosted gains old new (map message_of replies)
  posted_one old new m replies gained is = inl (subst (gains old new) (sym (ap (map message_of) is)) gained)
