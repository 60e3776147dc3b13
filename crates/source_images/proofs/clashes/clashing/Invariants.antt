use Rattle.source_images.proofs.Common.{clashes, drop, false, get_or, length, sections_told, ℕ, ◌||◌, ◌≡◌}
use Rattle.source_images.proofs.Clashing.{clashes_among}
use Rattle.source_images.proofs.clashes.clashing.Given as goal

abbrev pub invariant-loop-placed : goal.invariant-loop-placed
invariant-loop-placed l = record {
  count : length l.marks.items ≡ l.images;
  rest : (m : ℕ) → get_or l.marks.items m false || clashes_among (sections_told l.sections)
      (sections_told (drop l.placed-index l.sections)) m ≡ clashes (sections_told l.sections) m;
}
