use Rattle.source_images.proofs.Common.{arch_of, section_pages}
use Rattle.source_images.proofs.Free.{free_apart, free_inside}
use Rattle.source_images.proofs.Rising.{Precedes, pages_inside, pages_rise, pairs_from_later}
use Rattle.source_images.proofs.section_laws.sections_lie_apart.Goals as goal

pub returns-clause-apart : goal.returns-clause-apart
returns-clause-apart c = λ s p numbered sound none d i. free_apart s p numbered none d i sound

pub returns-clause-rise : goal.returns-clause-rise
returns-clause-rise c = λ s p numbered sound none d i. pairs_from_later Precedes (section_pages p d.leaves)
    (pages_rise p d.leaves (free_apart s p numbered none d i sound))

pub returns-clause-inside : goal.returns-clause-inside
returns-clause-inside c = λ s p numbered sound none d i. pages_inside p d.leaves (free_apart s p numbered none d i sound)
    (arch_of p.images) (free_inside s p numbered none d i)
