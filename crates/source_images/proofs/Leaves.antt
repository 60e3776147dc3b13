-- What is noted of a leaf.
use Rattle.source_images.proofs.Common.{Arch, Bool, Flat, Image, Images, Leaf, List, Some, arch_of, get_or, image_faults, image_number, leaf_faults, length, read_place, rules, sections_end, slice_get, ℕ, ◌<◌, ◌≡◌}

pub same_tests : (p q : ℕ → Bool) → ((m : ℕ) → p m ≡ q m) → p ≡ q
same_tests p q h = λ i m. h m i

pub leaf_is : (flat : Flat) (images : Images) (clashing : ℕ → Bool) (leaf number : ℕ) (image : Image) (x : Leaf)
    → slice_get flat.leaves leaf ≡ Some x → image_number images leaf ≡ Some number
    → slice_get images.images number ≡ Some image
    → leaf_faults flat images clashing leaf ≡ image_faults (sections_end (arch_of images.images)) x.place
    (clashing number) image
leaf_is flat images clashing leaf number image x placed is at = cc

-- ys and zs are the slices by which images and leaves are read
pub leaf_noted : (flat : Flat) (images : Images) (clashing : ℕ → Bool) (leaf number end : ℕ) (arch : Arch) (image : Image)
    (x : Leaf) (ys : List Image) (zs : List Leaf)
    → ys ≡ images.images → number < length images.images → image ≡ get_or ys number image → zs ≡ flat.leaves
    → leaf < length flat.leaves → x ≡ get_or zs leaf x
    → Some number ≡ image_number images leaf → end ≡ sections_end arch → arch ≡ arch_of images.images
    → image_faults end x.place (clashing number) image ≡ leaf_faults flat images clashing leaf
leaf_noted flat images clashing leaf number end arch image x ys zs ye yl y ze zl z is ends kind =
    search (rules, leaf_is, read_place)
