-- Worked examples of what happened, of this project. What is said of them stands in src/examples.rt.
use Rattle.std.specs.Prelude.{ℕ, List, [], ◌∷◌, ◌++◌}
use Rattle.op_model.specs.Place.{plain}
use Rattle.op_model.specs.Examples.{a, x, y, dot}
use Rattle.wire_form.specs.Message.{VERSION, PLAIN_VERSION, DELTA, HELLO, OPENING}
use Rattle.wire_form.specs.Session.{SessionValue, session}
use Rattle.replica_model.specs.Delivery.{Joined, Sent, Done}
use Rattle.replica_model.specs.Step.{Put, Flush, Ask, Answer, Nothing, Made, Numbered, Came}
use Rattle.replica_model.specs.World.{Event, Node, At, Deliver}
use Rattle.replica_model.specs.Happened.{Happened}

abbrev pub happened : Event → Answer → ℕ → Happened
happened event answer sent = record { event = event; answer = answer; sent = sent }

-- replica 1 puts x on a; and then replica 2 is there
abbrev pub one_put : List Happened
one_put = happened (Node 1) Nothing 0 ∷ happened (At 1 (Put (plain a) x)) (Made (dot 1 1)) 0 ∷ happened (Node 2) Nothing 0 ∷ []

-- it is flushed and delivered; of a delta no more is read than that it is one
abbrev pub one_delta : List (List ℕ)
one_delta = (PLAIN_VERSION ∷ DELTA ∷ []) ∷ []

abbrev pub delivered : List Happened
delivered = one_put ++ happened (At 1 Flush) Nothing 1 ∷ happened (Deliver 1 2) (Came Joined) 0 ∷ []

-- or replica 2 asks for it; and while that goes on, replica 1 puts y
abbrev pub of_one : SessionValue
of_one = record { asker = 2; answerer = 1; number = 1 }

abbrev pub two_messages : List (List ℕ)
two_messages = (VERSION ∷ HELLO ∷ session of_one) ∷ (VERSION ∷ OPENING ∷ session of_one) ∷ []

abbrev pub asked : List Happened
asked = one_put ++ happened (At 2 (Ask 1)) (Numbered 1) 1 ∷ happened (Deliver 1 1) (Came Sent) 1
    ∷ happened (At 1 (Put (plain a) y)) (Made (dot 1 2)) 0 ∷ []

abbrev pub synchronised : List Happened
synchronised = asked ++ happened (Deliver 2 2) (Came Done) 0 ∷ []
