use Rattle.adl_hierarchy.proofs.Climbing.{exports_once}
use Rattle.adl_hierarchy.proofs.Finite.{sound_is_finite}
use Rattle.adl_hierarchy.proofs.Leading.{all_lead}
use Rattle.adl_hierarchy.proofs.PartNames.{names_once, wires_once}
use Rattle.adl_hierarchy.proofs.Whole.{parts_whole, wires_whole}
use Rattle.adl_hierarchy.proofs.laws.sound_hierarchies_are_finite.Goals as goal

pub returns-clause-finite : goal.returns-clause-finite
returns-clause-finite c = sound_is_finite

pub returns-clause-whole : goal.returns-clause-whole
returns-clause-whole c = parts_whole

pub returns-clause-whole_connections : goal.returns-clause-whole_connections
returns-clause-whole_connections c = wires_whole

pub returns-clause-instances : goal.returns-clause-instances
returns-clause-instances c = names_once

pub returns-clause-connections : goal.returns-clause-connections
returns-clause-connections c = wires_once

pub returns-clause-exports : goal.returns-clause-exports
returns-clause-exports c = exports_once

pub returns-clause-lead : goal.returns-clause-lead
returns-clause-lead c = all_lead
