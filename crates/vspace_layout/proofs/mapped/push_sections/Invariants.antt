use Rattle.vspace_layout.proofs.Common.{map, section_page, ◌++◌, ◌≡◌}
use Rattle.vspace_layout.proofs.mapped.push_sections.Given as goal

abbrev pub invariant-loop-page : goal.invariant-loop-page
invariant-loop-page l = l.pages.items ≡ l.fn.pages.items ++ map section_page l.yielded
