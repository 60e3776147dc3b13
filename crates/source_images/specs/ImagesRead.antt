-- What reading the images of a source answers. In given contents there is one answer, aside from failed reads and want of
-- memory (`answers_are_one` in src/laws.rt), so each comes exactly where it says.
use Rattle.std.specs.Prelude.{◌≡◌, ℕ, Bool, true, false, List, None, Some, Result, Ok, Err, map, Option}
use Rattle.source_images.specs.Below.{Contents, Fault, Flat, IsIn, Source, SourceError, Image, filter_map, image_of, zip}
use Rattle.source_images.specs.declared.images.Images.{Images}
use Rattle.source_images.specs.Found.{found_of, table_names, Found, absent, too_long, table}
use Rattle.source_images.specs.TableFaults.{first_table_fault, name_of_file}
use Rattle.cam_base.specs.declared.error.Unread.TheVariants as error
use Rattle.source_images.specs.Types.{Name, types, type_number}

-- the image of a type
abbrev pub image_in : Name × Found → Option Image
image_in (name, absent) = None
image_in (name, too_long) = None
image_in (name, table bytes) = image_of name bytes

-- the images of types
abbrev pub images_in : List Name → List Found → List Image
images_in names all = filter_map image_in (zip names all)

abbrev pub images_of : Source → Flat → List Found → Images
images_of source flat all =
    record { images = images_in (types source flat) all; of_leaf = map (type_number source flat) flat.leaves }

-- in what the contents have under the names of the tables no fault stands: these are the images
pub record AreImagesOf (contents : Contents) (root : List ℕ) (source : Source) (flat : Flat) (answer : Images)
    : Type 0 where
  pub clean : first_table_fault root source flat (found_of contents root source flat) ≡ None
  pub images : answer ≡ images_of source flat (found_of contents root source flat)

-- this fault is the first in what the contents have under the names of the tables; with the name of its file
pub record IsFaultOf (contents : Contents) (root : List ℕ) (source : Source) (flat : Flat) (fault : Fault) (file : List ℕ)
    : Type 0 where
  pub first : first_table_fault root source flat (found_of contents root source flat) ≡ Some fault
  pub named : file ≡ name_of_file root source flat fault.place.file

-- the answer for a source whose root is the file of this name
abbrev pub AreImagesRead : Contents → List ℕ → Source → Flat → Result Images SourceError → Type 0
AreImagesRead contents root source flat (Ok images) = AreImagesOf contents root source flat images
AreImagesRead contents root source flat (Err (error.Fault fault file)) = IsFaultOf contents root source flat fault file
AreImagesRead contents root source flat (Err (error.ReadFault file)) = IsIn file (table_names root source flat)
AreImagesRead contents root source flat (Err error.NoMemory) = Unit {0}
