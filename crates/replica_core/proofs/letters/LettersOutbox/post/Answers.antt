use Rattle.wire_form.specs.Message.{message_of}
use Rattle.replica_core.proofs.Written.{posts}
use Rattle.replica_core.proofs.letters.LettersOutbox.post.Goals as goal

pub returns-clause-ok : goal.returns-clause-ok
returns-clause-ok g c = rw (← c.self.view_is) (posts c.self.inside.letters.items c.push.new.self.items c.in_ok-letter.letter (message_of c.args.message.now)
    c.in_ok-push.ensures.items c.in_ok-letter.ensures.ok)
