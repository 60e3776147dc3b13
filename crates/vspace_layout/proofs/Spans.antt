-- What lies within 2^30 above the end of sections lies below what the root spans.
use Rattle.vspace_layout.proofs.Common.{Aarch64, Arch, Arm11, arith, sections_end, ℕ, ◌+◌, ◌<◌}
use Rattle.page_tables.specs.Shapes.{shapes}
use Rattle.page_tables.specs.Walks.{root_span}

pub root_spans : (a : Arch) (at : ℕ) → at < sections_end a + 1073741824 → at < root_span (shapes a)
root_spans Arm11 at l = omega (arith, l)
root_spans Aarch64 at l = omega (arith, l)
