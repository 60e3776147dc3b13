use Rattle.source_images.proofs.Common.{ap, found_of, slice_get, sym, types, ◌∙◌}
use Rattle.source_images.proofs.Soundness.{images_sound}
use Rattle.source_images.proofs.laws.images_are_sound.Goals as goal

pub returns : goal.returns
returns c contents root source flat images are m image at s within =
    images_sound (types source flat) (found_of contents root source flat) m image (sym (ap (λ z. slice_get z.images m) are.images)
    ∙ at) s within
