use Rattle.front_laws.proofs.RegionTexts.{from_no_fault, from_region_fault, in_no_fault, in_region_fault}
use Rattle.front_laws.proofs.text_laws.region_faults_are_the_first.Goals as goal

pub returns-clause-first : goal.returns-clause-first
returns-clause-first c = λ bytes f. (from_region_fault bytes f, in_region_fault bytes f)

pub returns-clause-none : goal.returns-clause-none
returns-clause-none c = λ bytes. (from_no_fault bytes, in_no_fault bytes)
