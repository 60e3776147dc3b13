-- What the images of a system have to be. Images and their sections have numbers of 32 bits, and the numbers that leaves
-- and domains name are those of images and leaves. The sections of programs can be placed where each is sound and none has
-- a page of another one.
use Rattle.std.specs.Prelude.{◌≡◌, ◌<◌, ◌^◌, ℕ, false, List, length, Some, slice_get, IsTrue}
use Rattle.source_images.specs.Below.{Flat, Image, IsIn, Section}
use Rattle.adl_meaning.specs.declared.flat.Domain.{Domain}
use Rattle.source_images.specs.Images.{Placed, image_number, sections_of}
use Rattle.source_images.specs.SpaceFaults.{clashes}
use Rattle.source_images.specs.declared.images.Images.{Images}
use Rattle.sect_table.specs.Sections.{is_sound}

-- fewer than 2^32 images, each with fewer than 2^32 sections
pub record AreCounted (images : Images) : Type 0 where
  pub count : length images.images < 2 ^ 32
  pub sections : (m : ℕ) (image : Image) → slice_get images.images m ≡ Some image → length image.sections < 2 ^ 32

-- each image that a leaf runs is one of the images, and each leaf of a domain is one of the leaves
pub record AreNumbered (flat : Flat) (images : Images) : Type 0 where
  pub counted : AreCounted images
  pub runs : (leaf m : ℕ) → image_number images leaf ≡ Some m → m < length images.images
  pub listed : (domain : Domain) → IsIn domain flat.domains → (leaf : ℕ) → IsIn leaf domain.leaves → leaf < length flat.leaves

-- each section of each image is sound
abbrev pub AreSound : Images → Type 0
AreSound images = (m : ℕ) (image : Image) → slice_get images.images m ≡ Some image → (s : Section) → IsIn s image.sections
    → IsTrue (is_sound s)

-- the sections of the programs that leaves run are sound, and no program that one of them runs has a section that clashes
pub record AreApart (images : Images) (leaves : List ℕ) : Type 0 where
  pub counted : AreCounted images
  pub sound : (x : Placed) → IsIn x (sections_of images leaves) → IsTrue (is_sound x.section)
  pub apart : (leaf m : ℕ) → IsIn leaf leaves → image_number images leaf ≡ Some m → clashes (sections_of images leaves) m ≡ false
