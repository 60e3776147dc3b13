use Rattle.source_images.proofs.Common.{map, page_at, range_with_len, ◌++◌, ◌≡◌}
use Rattle.source_images.proofs.pages.push_pages.Given as goal

abbrev pub invariant-loop-number : goal.invariant-loop-number
invariant-loop-number l = l.pages ≡ l.fn.pages ++ map (page_at l.file l.section) (range_with_len 0 l.number)
