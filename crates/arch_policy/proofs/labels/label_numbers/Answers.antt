-- label_numbers
use Rattle.arch_policy.proofs.Common.{LabelNumbers}
use Rattle.arch_policy.proofs.Labelled.{numbers_are}
use Rattle.arch_policy.proofs.labels.label_numbers.Goals as goal

pub returns : goal.returns
returns c =
    let n : LabelNumbers = record {
      domains = c.in_ok-domains.domains;
      connections = c.in_ok-connections.connections;
      devices = c.in_ok-devices.devices;
    } in
    numbers_are c.args.flat.now c.args.texts.now _ _ _ n c.requires.are c.as_slice.ensures c.as_slice-3.ensures
    c.as_slice-leaves.ensures c.in_ok-domains.ensures c.in_ok-connections.ensures c.in_ok-devices.ensures
