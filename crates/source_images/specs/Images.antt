-- The images of a system's programs, and which one each leaf runs. A device runs none.
use Rattle.std.specs.Prelude.{ℕ, ◌==◌, Bool, true, false, List, [], ◌∷◌, Option, slice_get}
use Rattle.source_images.specs.Below.{Aarch64, Arch, Arm11, Image, Section, gather, list_any, option_and_then, option_map_or}
use Rattle.source_images.specs.declared.images.Images.{Images}

-- the number of the image that a leaf runs
abbrev pub image_number : Images → ℕ → Option ℕ
image_number images leaf = option_and_then (λ m. m) (slice_get images.of_leaf leaf)

abbrev pub runs : Images → ℕ → ℕ → Bool
runs images m leaf = option_map_or (λ k. k == m) (image_number images leaf) false

-- whether one of these leaves runs it
abbrev pub is_run : Images → List ℕ → ℕ → Bool
is_run images leaves m = list_any (runs images m) leaves

-- a section of a program: the number of the image, and the section's place in it
pub record Placed : Type 0 where
  pub image : ℕ
  pub number : ℕ
  pub section : Section

abbrev pub placed : ℕ → ℕ → Section → Placed
placed m n section = record { image = m; number = n; section = section }

abbrev pub sections_if : Bool → ℕ → Image → List Placed
sections_if true m image = gather (λ n section. placed m n section ∷ []) image.sections
sections_if false m image = []

-- the sections of the programs that leaves run, those of each program once
abbrev pub sections_of : Images → List ℕ → List Placed
sections_of images leaves = gather (λ m image. sections_if (is_run images leaves m) m image) images.images

-- the architecture of all images: without any the 32-bit one
abbrev pub arch_of : List Image → Arch
arch_of [] = Arm11
arch_of (image ∷ images) = image.arch

-- where sections end and the other regions of a space begin
abbrev pub sections_end : Arch → ℕ
sections_end Arm11 = 0x40000000
sections_end Aarch64 = 0x8000000000
