use Rattle.policy_text.proofs.Common.{rules, said_all, says_then}
use Rattle.policy_text.specs.PolicyLines.{policy_text}
use Rattle.policy_text.proofs.write.write_policy.Goals as goal

pub returns : goal.returns
unfolding policy_text
returns g c =
    let labels = rw c.as_slice.ensures at c.write_labels.ensures in
    let objects = rw c.as_slice-2.ensures at c.write_objects.ensures in
    let all = says_then (says_then (says_then c.text.ensures labels) objects) c.write_edges.ensures in
    said_all c.new-to.ensures.channel c.new-to.ensures.said all c.flush.ensures (search rules)
