use Rattle.policy_text.proofs.Common.{rules, said_all, says_then}
use Rattle.policy_text.specs.PolicyLines.{cert_text}
use Rattle.policy_text.proofs.write.write_cert.Goals as goal

pub returns : goal.returns
unfolding cert_text
returns g c =
    let all = says_then c.text.ensures c.write_edges.ensures in
    said_all c.new-to.ensures.channel c.new-to.ensures.said all c.flush.ensures (search rules)
