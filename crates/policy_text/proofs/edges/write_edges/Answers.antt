use Rattle.policy_text.proofs.Common.{[], ap, apart_line, append_assoc, edges_left, rules, says_nothing, sym, ◌++◌, ◌∙◌, ◌∷◌}
use Rattle.policy_text.proofs.Saying.{says_end, says_next}
use Rattle.policy_text.proofs.edges.write_edges.Goals as goal

pub loop-edge-init : goal.loop-edge-init
loop-edge-init g c = record { all = search rules; said = says_nothing }

pub loop-edge-preserved : goal.loop-edge-preserved
loop-edge-preserved g c = record {
  all = append_assoc c.loop-edge.yielded (c.in-Some.edge ∷ []) (edges_left c.next.new.self)
      ∙ ap (λ es. c.loop-edge.yielded ++ es) (sym c.in-Some.ensures.steps) ∙ c.loop-edge.invariant.all;
  said = says_next (apart_line c.args.names.now) c.loop-edge.yielded c.in-Some.edge c.loop-edge.invariant.said
      c.write_apart.ensures;
}

pub returns : goal.returns
returns g c = says_end (apart_line c.args.names.now) c.loop-edge.yielded (edges_left c.loop-edge.edge-iterator) c.args.edges.now
    c.loop-edge.invariant.all c.in-None.ensures.steps.0 c.loop-edge.invariant.said
