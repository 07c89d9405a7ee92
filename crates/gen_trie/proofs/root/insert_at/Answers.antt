use Rattle.std.proofs.Common.{rules, ◌≡◌, ◌⊎◌, ◌<◌, ◌+◌, ◌-◌, ◌^◌, true, cond, refl, sym, ◌∙◌, ap, subst}
use Rattle.std.specs.Prelude.{is_some}
use Rattle.std.specs.FinMap.Entries.{put, find}
use Rattle.dots.specs.Bytes.{bytes_cmp}
use Rattle.hash_path.specs.Word.{word}
use Rattle.gen_trie.specs.Root.{root_entries}
use Rattle.gen_trie.proofs.Roots.{put_root_is, room_for_one}
use Rattle.gen_trie.proofs.root.insert_at.Goals as goal

pub overflow_add-count : goal.overflow_add-count
overflow_add-count g c =
    let leaf = c.in_ok-leaf.ensures.ok in
    let room = subst (λ k. (c.args.count.now < 2 ^ 64 - 1) ⊎ (is_some (find bytes_cmp (word 7 c.args.hash k) (root_entries c.args.root.now)) ≡ true))
    c.bytes.ensures.value (c.if-not-has_room.ensures refl) in
    let fits = room_for_one c.args.root.now c.put_root.new.root c.args.count.now (word 7 c.args.hash c.args.key)
    c.args.value c.in_ok-fresh.fresh c.requires.is_root
    (c.in_ok-fresh.ensures.ok ∙ (λ i. put bytes_cmp (word 7 (leaf.0 i) (leaf.1 i)) (leaf.2 i) (root_entries c.args.root.now)))
    c.in_ok-fresh.ensures.fresh room c.if-fresh.true in
    search (rules, fits)

pub returns-then-fresh-clause-is_root : goal.returns-then-fresh-clause-is_root
returns-then-fresh-clause-is_root g c =
    let leaf = c.in_ok-leaf.ensures.ok in
    put_root_is c.args.root.now c.put_root.new.root c.args.count.now _ (word 7 c.args.hash c.args.key) c.args.value c.in_ok-fresh.fresh c.requires.is_root
    (c.in_ok-fresh.ensures.ok ∙ (λ i. put bytes_cmp (word 7 (leaf.0 i) (leaf.1 i)) (leaf.2 i) (root_entries c.args.root.now)))
    c.in_ok-fresh.ensures.stands c.in_ok-fresh.ensures.fresh
    (ap (λ b. cond b (c.args.count.now + 1) c.args.count.now) (sym c.if-fresh.true))

pub returns-else-fresh-clause-is_root : goal.returns-else-fresh-clause-is_root
returns-else-fresh-clause-is_root g c =
    let leaf = c.in_ok-leaf.ensures.ok in
    put_root_is c.args.root.now c.put_root.new.root c.args.count.now _ (word 7 c.args.hash c.args.key) c.args.value c.in_ok-fresh.fresh c.requires.is_root
    (c.in_ok-fresh.ensures.ok ∙ (λ i. put bytes_cmp (word 7 (leaf.0 i) (leaf.1 i)) (leaf.2 i) (root_entries c.args.root.now)))
    c.in_ok-fresh.ensures.stands c.in_ok-fresh.ensures.fresh
    (ap (λ b. cond b (c.args.count.now + 1) c.args.count.now) (sym c.if-fresh.false))

pub returns-then-not-has_room-clause-is_root : goal.returns-then-not-has_room-clause-is_root
returns-then-not-has_room-clause-is_root g c = c.requires.is_root

pub returns-then-not-has_room-clause-same : goal.returns-then-not-has_room-clause-same
returns-then-not-has_room-clause-same g c = refl
