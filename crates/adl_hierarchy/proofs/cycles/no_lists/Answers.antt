use Rattle.adl_hierarchy.proofs.Common.{List, [], ap, arith, has, inner_of, ℕ, ◌++◌, ◌∙◌, ◌∷◌}
use Rattle.adl_hierarchy.proofs.Waiting.{inner_of-empty}
use Rattle.adl_hierarchy.proofs.cycles.no_lists.Goals as goal

pub loop-list-preserved : goal.loop-list-preserved
loop-list-preserved c = record {
  len = let s = c.loop-list.invariant.len in let n = c.in_ok-push.ensures.len in omega arith;
  none = λ d a.
      ap (λ (ws : List (List ℕ)). has (inner_of ws d) a) (c.in_ok-push.ensures.items ∙ ap (λ (w : List ℕ). c.loop-list.lists.items
      ++ w ∷ []) c.new.ensures)
      ∙ ap (λ w. has w a) (inner_of-empty c.loop-list.lists.items d) ∙ c.loop-list.invariant.none d a;
}
