use Rattle.policy_text.proofs.Common.{[], ap, append_assoc, edge_line, edges_left, rules, says_nothing, sym, ◌++◌, ◌∙◌, ◌∷◌}
use Rattle.policy_text.proofs.Saying.{says_end, says_next}
use Rattle.policy_text.proofs.write.write_edges.Goals.{else-edge-label, then-edge-label}
use Rattle.policy_text.proofs.write.write_edges.Goals as goal

pub loop-edge-init : goal.loop-edge-init
loop-edge-init g c = record {
  all = search rules;
  said = says_nothing;
  within = c.decimal-count.ensures.len;
  number = c.decimal-count.ensures.text;
}

pub loop-edge-preserved : goal.loop-edge-preserved
loop-edge-preserved g c = record {
  all = append_assoc c.loop-edge.yielded (c.in-Some.edge ∷ []) (edges_left c.next.new.self)
      ∙ ap (λ es. c.loop-edge.yielded ++ es) (sym c.in-Some.ensures.steps) ∙ c.loop-edge.invariant.all;
  said = says_next edge_line c.loop-edge.yielded c.in-Some.edge c.loop-edge.invariant.said c.write_edge.ensures;
  within = search rules;
  number = elim c.if-edge-label.branch [
    | then-edge-label w ↦ rw (w.count-is, w.digits-is, w.label-is) w.decimal-count-then-edge-label.ensures.text
    | else-edge-label w ↦ rw (w.count-is, w.digits-is, w.label-is) c.loop-edge.invariant.number
  ];
}

pub returns : goal.returns
returns g c = says_end edge_line c.loop-edge.yielded (edges_left c.loop-edge.edge-iterator) c.args.edges.now
    c.loop-edge.invariant.all c.in-None.ensures.steps.0 c.loop-edge.invariant.said
