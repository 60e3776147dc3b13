use Rattle.front_laws.proofs.ElfFaults.{from_elf_fault, from_no_elf_fault, in_elf_fault, in_no_elf_fault}
use Rattle.front_laws.proofs.text_laws.elf_faults_are_the_first.Goals as goal

pub returns-clause-first : goal.returns-clause-first
returns-clause-first c = λ bytes f. (from_elf_fault bytes f, in_elf_fault bytes f)

pub returns-clause-none : goal.returns-clause-none
returns-clause-none c = λ bytes. (from_no_elf_fault bytes, in_no_elf_fault bytes)
