use Rattle.spec_laws.proofs.Irqs.{irqs_are}
use Rattle.spec_laws.proofs.Joints.{endpoints_are, notifications_are}
use Rattle.spec_laws.proofs.Labels.{domain_labels, frame_labels}
use Rattle.spec_laws.proofs.laws.labels_are_of_owners.Goals as goal

pub returns-clause-domains : goal.returns-clause-domains
returns-clause-domains c = domain_labels

pub returns-clause-frames : goal.returns-clause-frames
returns-clause-frames c = frame_labels

pub returns-clause-joints : goal.returns-clause-joints
returns-clause-joints c = λ t can. record {
  endpoints = endpoints_are t can;
  notifications = notifications_are t can;
  irqs = irqs_are t can;
}
