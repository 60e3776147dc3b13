use Rattle.command_words.proofs.Common.{Bor, List, [], ap, ap₂, arith, false, leaf, length, map, rules, take_all, ℕ, ◌||◌, ◌∙◌, ◌≡◌, ◌≤◌}
use Rattle.command_words.proofs.Building.{rule_required, slot_added}
use Rattle.command_words.proofs.reader.subcommand.Goals as goal

pub loop-slot-preserved : goal.loop-slot-preserved
loop-slot-preserved c =
    let before = c.loop-slot.invariant in
    let rule = rule_required _ _ _ c.required.ensures c.new.ensures.rule in
    let adds = c.in_ok-command.ensures in
    let local : c.required.result.global ≡ false = search rules in
    (slot_added _ _ _ _ _ _ _ adds local rule (omega arith) before.0, adds.globals ∙ ap₂ (λ a b. a || b) before.1 local)

pub returns-clause-app : goal.returns-clause-app
returns-clause-app c =
    let before = c.loop-slot.invariant in
    let past : length c.args.slots.now ≤ c.loop-slot.slot-index = c.loop-slot-test.false in
    before.0 ∙ ap (λ (xs : List (Bor (List ℕ))). record { top = leaf c.args.name.now (map (λ s. s.now) xs); subs = [] })
    (take_all _ c.args.slots.now past)
