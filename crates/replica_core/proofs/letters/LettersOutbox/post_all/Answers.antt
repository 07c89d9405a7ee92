use Rattle.std.specs.Prelude.{map}
use Rattle.wire_form.specs.Message.{message_of}
use Rattle.replica_core.proofs.Written.{posts_all}
use Rattle.replica_core.proofs.letters.LettersOutbox.post_all.Goals as goal

pub returns-clause-ok : goal.returns-clause-ok
returns-clause-ok g c =
    rw (← c.self.view_is) (posts_all c.self.inside.letters.items c.append.new.self.items c.in_ok-spelled.spelled.items (map message_of c.args.messages.now)
    c.in_ok-append.ensures.items c.in_ok-spelled.ensures.ok)
