use Rattle.source_images.proofs.Common.{AreNumbered, found_of, refl, subst, sym, table_names}
use Rattle.source_images.proofs.ImageNumbers.{images_numbered}
use Rattle.source_images.proofs.TableReads.{found_count}
use Rattle.source_images.proofs.laws.images_are_numbered.Goals as goal

pub returns : goal.returns
returns c contents root source flat images are within =
    let found = found_of contents root source flat in
    subst (AreNumbered flat) (sym are.images)
    (images_numbered root source flat found (found_count contents (table_names root source flat) found refl) are.clean within)
