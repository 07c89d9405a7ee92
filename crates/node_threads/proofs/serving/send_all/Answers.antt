use Rattle.std.proofs.Common.{◌≡◌, ℕ, ◌+◌, [], ◌∷◌, ◌++◌, refl, take, ap, sym, subst, ◌∙◌, arith}
use Rattle.std.proofs.lemmas.List.{take_more}
use Rattle.node_threads.specs.Serving.{AreSent}
use Rattle.node_threads.proofs.Inboxes.{short}
use Rattle.node_threads.proofs.Posts.{sent_more, unsent_more, lost_more, few_missed}
use Rattle.node_threads.proofs.serving.send_all.Goals.{in-Sent, in-Unsent, in-Lost}
use Rattle.node_threads.proofs.serving.send_all.Goals as goal

pub loop-reply-init : goal.loop-reply-init
loop-reply-init g c = (refl, refl, refl)

pub loop-reply-preserved : goal.loop-reply-preserved
loop-reply-preserved g c =
    let receives = g.P.Post.receives in
    let sends = g.P.Post.sends in
    let rests = g.P.Post.rests in
    let replies = c.args.replies.now in
    let reply = c.reply-item.result in
    let before = take c.loop-reply.reply-index replies in
    let first = c.args.post.now in
    let mid = c.loop-reply.post in
    let last = c.send.new.post in
    let unsent = c.loop-reply.unsent in
    let lost = c.loop-reply.lost in
    let more : take (c.loop-reply.reply-index + 1) replies ≡ before ++ reply ∷ [] =
    take_more replies c.loop-reply.reply-index reply c.loop-reply-test.true ∙ ap (λ x. before ++ x ∷ []) (sym c.reply-item.is) in
    let to : (n m : ℕ) → c.match-send.unsent ≡ n → c.match-send.lost ≡ m → AreSent receives sends rests first last (before ++ reply ∷ []) n m
    → AreSent receives sends rests first last (take (c.loop-reply.reply-index + 1) replies) c.match-send.unsent c.match-send.lost =
    λ n m e f h. subst (λ x. AreSent receives sends rests first last (take (c.loop-reply.reply-index + 1) replies) x c.match-send.lost) (sym e)
    (subst (λ x. AreSent receives sends rests first last (take (c.loop-reply.reply-index + 1) replies) n x) (sym f)
    (subst (λ rs. AreSent receives sends rests first last rs n m) (sym more) h)) in
    elim c.match-send.branch [
      | in-Sent w ↦
          to unsent lost w.unsent-is w.lost-is
          (sent_more receives sends rests mid last reply first before unsent lost c.loop-reply.invariant (c.send.ensures.sent w.in-Sent.is))
      | in-Unsent w ↦
          to (unsent + 1) lost w.unsent-is w.lost-is
          (unsent_more receives sends rests mid last reply first before unsent lost c.loop-reply.invariant (c.send.ensures.unsent w.in-Unsent.is))
      | in-Lost w ↦
          to unsent (lost + 1) w.unsent-is w.lost-is
          (lost_more receives sends rests mid last reply first before unsent lost c.loop-reply.invariant (c.send.ensures.lost w.in-Lost.is))
    ]

pub overflow_add-unsent : goal.overflow_add-unsent
overflow_add-unsent g c =
    let few = few_missed g.P.Post.receives g.P.Post.sends g.P.Post.rests c.args.post.now c.loop-reply.post (take c.loop-reply.reply-index c.args.replies.now)
    c.loop-reply.unsent c.loop-reply.lost c.loop-reply.invariant in
    omega (arith, few, short c.loop-reply.reply-index c.args.replies.now, c.loop-reply-test.true, c.requires)

pub overflow_add-lost : goal.overflow_add-lost
overflow_add-lost g c =
    let few = few_missed g.P.Post.receives g.P.Post.sends g.P.Post.rests c.args.post.now c.loop-reply.post (take c.loop-reply.reply-index c.args.replies.now)
    c.loop-reply.unsent c.loop-reply.lost c.loop-reply.invariant in
    omega (arith, few, short c.loop-reply.reply-index c.args.replies.now, c.loop-reply-test.true, c.requires)
