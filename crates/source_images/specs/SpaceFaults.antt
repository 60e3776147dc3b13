-- The faults of address spaces. SectionOverlap stands where a page of a leaf's program is a page of another section of it,
-- or of another program of its domain. Window stands where a page of it lies outside the part of a space that is for
-- sections. Both stand at the word of the leaf's component, whose name they give.
use Rattle.std.specs.Prelude.{ℕ, ◌==◌, not, Bool, ◌&&◌, List, [], ◌++◌, Option, Some, None, slice_get}
use Rattle.source_images.specs.Below.{Fault, Flat, Image, Place, flat_map, least, list_any, option_map_or, where_true}
use Rattle.cam_base.specs.declared.code.Code.{Code}
use Rattle.cam_base.specs.declared.code.Code.TheVariants as code
use Rattle.source_images.specs.Images.{Placed, arch_of, image_number, sections_end, sections_of}
use Rattle.source_images.specs.SectionPages.{is_inside, share_page}
use Rattle.source_images.specs.declared.images.Images.{Images}

-- another section has a page of this one
abbrev pub clashes_with : Placed → Placed → Bool
clashes_with x y = not (x.image == y.image && x.number == y.number) && share_page x.section y.section

-- whether a section of the image has a page of another one
abbrev pub clashes : List Placed → ℕ → Bool
clashes all m = list_any (λ x. x.image == m && list_any (clashes_with x) all) all

-- whether a section of the image lies elsewhere than sections may
abbrev pub is_outside : ℕ → Image → Bool
is_outside end image = list_any (λ s. not (is_inside end s)) image.sections

abbrev pub fault_at : Code → Place → List ℕ → Fault
fault_at c place name = record { code = c; place = place; name = name }

-- of an image that a leaf at this place runs, where it is known whether it clashes
abbrev pub image_faults : ℕ → Place → Bool → Image → List Fault
image_faults end place clashing image =
    where_true clashing (fault_at code.SectionOverlap place image.name) ++ where_true (is_outside end image)
    (fault_at code.Window place image.name)

abbrev pub numbered_faults : Images → (ℕ → Bool) → Place → Option ℕ → List Fault
numbered_faults images clashing place None = []
numbered_faults images clashing place (Some m) =
    option_map_or (image_faults (sections_end (arch_of images.images)) place (clashing m)) (slice_get images.images m) []

-- of the leaf with this number, where it is known which images clash
abbrev pub leaf_faults : Flat → Images → (ℕ → Bool) → ℕ → List Fault
leaf_faults flat images clashing leaf =
    option_map_or (λ x. numbered_faults images clashing x.place (image_number images leaf)) (slice_get flat.leaves leaf) []

-- of the leaves of a domain
abbrev pub domain_faults : Flat → Images → List ℕ → List Fault
domain_faults flat images leaves = flat_map (leaf_faults flat images (clashes (sections_of images leaves))) leaves

abbrev pub space_faults : Flat → Images → List Fault
space_faults flat images = flat_map (λ domain. domain_faults flat images domain.leaves) flat.domains

abbrev pub first_space_fault : Flat → Images → Option Fault
first_space_fault flat images = least (space_faults flat images)
