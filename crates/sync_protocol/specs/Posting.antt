-- What an outbox has after a call that sends. Of this project.
use Rattle.std.specs.Prelude.{◌≡◌, ◌⊎◌, List, []}
use Rattle.wire_form.specs.Message.{MessageValue}

-- the second outbox is the first with these messages posted, or it is the first and nothing was sent
abbrev pub IsPosted : {Box : Type 0} → (Box → Box → List MessageValue → Type 0) → Box → Box → List MessageValue → Type 0
IsPosted gains old new messages = gains old new messages ⊎ ((new ≡ old) × (messages ≡ []))
