use Rattle.source_images.proofs.Common.{IsNonDecreasingBy-from_sort_by_key, placed_told, rules}
use Rattle.source_images.proofs.Apart.{address}
use Rattle.source_images.proofs.InOrder.{sorted_told}
use Rattle.source_images.proofs.pages.by_address.Goals as goal

pub returns : goal.returns
returns c =
    let new = c.sort_unstable_by_key.new.self.items in
    sorted_told c.args.images.now c.args.leaves.now c.in_ok-sections.sections.items new c.requires c.in_ok-sections.ensures
    c.sort_unstable_by_key.ensures.permutation
    (IsNonDecreasingBy-from_sort_by_key (λ p. address (placed_told p)) new c.sort_unstable_by_key.ensures.sorted
    (λ a r f k. search rules))
