use Rattle.adl_hierarchy.proofs.Common.{List, Settles, arith, false≢true, has, subst, take_all, true, ℕ, ◌≡◌}
use Rattle.adl_hierarchy.proofs.Marks.{has_at}
use Rattle.adl_hierarchy.proofs.Waiting.{settles_none, settles_more}
use Rattle.adl_hierarchy.proofs.placing.Placing.settle_each.Goals as goal

pub loop-component-init : goal.loop-component-init
loop-component-init c = record { placing = c.requires.placing; settles = settles_none _ _ _ (λ x e. false≢true e) }

pub settle-requires-clause-component : goal.settle-requires-clause-component
settle-requires-clause-component c = c.requires.components _ (has_at c.args.components.now c.loop-component.component-index
    (omega arith))

pub loop-component-preserved : goal.loop-component-preserved
loop-component-preserved c = record {
  placing = c.in_ok-settle.ensures.placing;
  settles = settles_more _ _ _ _ c.args.components.now c.loop-component.component-index (omega arith)
      c.loop-component.invariant.settles c.in_ok-settle.ensures.settles;
}

pub returns-clause-settles : goal.returns-clause-settles
returns-clause-settles c =
    let P : List ℕ → Type 0 = λ xs. Settles c.args.graph.now c.args.self.now c.loop-component.self (λ x. has xs x ≡ true) in
    subst P (take_all c.loop-component.component-index c.args.components.now (omega arith)) c.loop-component.invariant.settles
