-- Each leaf of software has an image, as the images have that are read for a source.
use Rattle.std.specs.Prelude.{◌≡◌, ℕ, Some, slice_get}
use Rattle.spec_laws.specs.Below.{Flat, Leaf, image_number}
use Rattle.source_images.specs.declared.images.Images.{Images}

abbrev pub HaveImages : Flat → Images → Type 0
HaveImages flat images =
    (leaf d : ℕ) (found : Leaf) → slice_get flat.leaves leaf ≡ Some found → found.domain ≡ Some d
    → (m : ℕ) × (image_number images leaf ≡ Some m)
