use Rattle.cap_audit.proofs.Common.{AreReady, Made, OfAllCalls, OfListening, OfSome, length}
use Rattle.cap_audit.proofs.Assembling.{of_listeners}
use Rattle.cap_audit.proofs.Gaining.{gains_by}
use Rattle.cap_audit.proofs.Meeting.{none_met}
use Rattle.cap_audit.proofs.report.show_calls.Goals as goal

pub company-requires-clause-as_many : goal.company-requires-clause-as_many
company-requires-clause-as_many c = c.requires.kinds.as_many

pub listen_all-requires-clause-ready : goal.listen_all-requires-clause-ready
listen_all-requires-clause-ready c = record {
  kept = c.requires.kept;
  all = c.requires.all;
  alike = c.requires.kinds.are_heads;
  as_many = c.requires.kinds.as_many;
  are_rosters = c.in_ok-company.ensures.rosters;
  are_members = c.in_ok-company.ensures.members;
  are_gates = c.in_ok-company.ensures.gates;
}

pub listen_all-requires-clause-are_met : goal.listen_all-requires-clause-are_met
listen_all-requires-clause-are_met c =
    none_met c.args.making.now.labels c.in_ok-company.company.rosters c.in_ok-company.company.members
    c.in_ok-met.met (length c.args.making.now.spec.entries) c.args.making.now.edges c.in_ok-met.ensures

pub returns : goal.returns
returns c =
    let m : Made = c.args.making.now in
    let company = c.in_ok-company.company in
    let ready : AreReady m.spec m.found m.heads company.rosters company.members company.gates = record {
      kept = c.requires.kept;
      all = c.requires.all;
      alike = c.requires.kinds.are_heads;
      as_many = c.requires.kinds.as_many;
      are_rosters = c.in_ok-company.ensures.rosters;
      are_members = c.in_ok-company.ensures.members;
      are_gates = c.in_ok-company.ensures.gates;
    } in
    gains_by (OfSome (OfListening m.spec m.labels m.found m.heads company.rosters company.members company.gates)
    m.found.queue) (OfAllCalls m.spec m.labels)
    (of_listeners m.spec m.labels m.found m.heads company.rosters company.members company.gates ready) m
    c.listen_all.new.self c.in_ok-listen_all.ensures.gains
