-- What is told of an event that a world accepted, and what the world is afterwards. Of this project.
use Rattle.std.specs.Prelude.{◌≡◌, ℕ, ◌+◌, ◌++◌, List, length}
use Rattle.replica_model.specs.Step.{Answer}
use Rattle.replica_model.specs.World.{World, Event, Happens}
use Rattle.replica_world.specs.Held.{after, occurrence}
use Rattle.replica_world.specs.Keeping.{WorldValue}

-- In this world the event happened with this answer, and made the messages from the first number to before the second. What a synchronisation added that
-- ended by it is a law of worlds.
pub record IsTold (hash_of : List ℕ → ℕ) (w : World) (e : Event) (answer : Answer) (first end : ℕ) : Type 0 where
  pub after : World
  pub happens : Happens hash_of w e answer after
  pub begins : first ≡ length w.messages + 1
  pub stops : end ≡ length after.messages + 1

-- It was accepted and answered so. The messages from the first number to before the second were added, and it is held behind all that happened.
pub record Accepts {Hash : Type 0} (old : WorldValue Hash) (e : Event) (answer : Answer) (first end : ℕ) (new : WorldValue Hash) : Type 0 where
  pub more : List (List ℕ)
  pub begins : first ≡ length old.messages + 1
  pub stops : end ≡ first + length more
  pub makes : new ≡ record {
    hash = old.hash;
    messages = old.messages ++ more;
    held = after old.held (occurrence (record { event = e; answer = answer; sent = length more }));
  }
