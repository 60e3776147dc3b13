use Rattle.adl_hierarchy.proofs.Common.{Settles, arith, length, subst, ℕ, ◌<◌, ◌≡◌}
use Rattle.adl_hierarchy.proofs.Waiting.{settles_none, settles_next}
use Rattle.adl_hierarchy.proofs.placing.Placing.settle_all.Goals as goal

pub loop-component-init : goal.loop-component-init
loop-component-init c = record { placing = c.requires.placing; settles = settles_none _ _ _ (λ x l. omega arith) }

pub loop-component-preserved : goal.loop-component-preserved
loop-component-preserved c = record {
  placing = c.in_ok-settle.ensures.placing;
  settles = settles_next _ _ _ _ _ c.loop-component.invariant.settles c.in_ok-settle.ensures.settles;
}

pub returns-clause-settles : goal.returns-clause-settles
returns-clause-settles c =
    let all : c.loop-component.component ≡ length c.args.graph.now = omega arith in
    let P : ℕ → Type 0 = λ n. Settles c.args.graph.now c.args.self.now c.loop-component.self (λ x. x < n) in
    subst P all c.loop-component.invariant.settles
