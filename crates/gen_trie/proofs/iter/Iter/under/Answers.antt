use Rattle.std.proofs.Common.{◌≡◌, ℕ, ◌-◌, List, [], length, Option, None, Some, sym, ◌∙◌, ap}
use Rattle.std.specs.Prelude.{MatchOption}
use Rattle.hash_path.specs.Map.{by_key}
use Rattle.hash_path.specs.Summary.{under_prefix}
use Rattle.hash_path.proofs.Summaries.{under_none}
use Rattle.std.specs.Borrow.{Bor}
use Rattle.gen_trie.specs.declared.node.Slot.{Slot}
use Rattle.gen_trie.specs.Root.{root_entries}
use Rattle.gen_trie.specs.Shapes.{child, StandsBelow}
use Rattle.gen_trie.specs.Left.{root_left}
use Rattle.gen_trie.proofs.iter.Iter.under.Goals as goal

-- what is left at a child that stands for these entries
left_of_child : {V M A : Type 0} (height : ℕ) (found : Option (Bor (Slot V M A))) (es : List (List ℕ × V))
    → MatchOption found (es ≡ []) (λ slot. (es ≡ (child height slot.now).1) × StandsBelow height slot.now) → root_left height found ≡ by_key height es
left_of_child height None es is = sym (ap (by_key height) is)
left_of_child height (Some slot) es is = sym (ap (by_key height) is.0)

pub returns-in-None-clause-part : goal.returns-in-None-clause-part
returns-in-None-clause-part g c =
    c.of.ensures ∙ sym (ap (by_key (7 - length c.args.prefix)) (ap (λ r. under_prefix c.args.prefix (root_entries r)) c.in-None.is ∙ under_none c.args.prefix))

pub returns-in-Some-clause-part : goal.returns-in-Some-clause-part
returns-in-Some-clause-part g c =
    c.of-in-Some.ensures ∙ ap (λ depth. root_left (7 - depth) c.slot_below.result) c.depth-height.ensures.length
    ∙ left_of_child (7 - length c.args.prefix) c.slot_below.result (under_prefix c.args.prefix (child 7 c.in-Some.slot).1) c.slot_below.ensures
    ∙ ap (λ root. by_key (7 - length c.args.prefix) (under_prefix c.args.prefix (root_entries root))) (sym c.in-Some.is)
