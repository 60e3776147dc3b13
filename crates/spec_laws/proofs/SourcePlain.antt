-- The layouts of a source without faults are plain, where the images of its programs are.
use Rattle.spec_laws.proofs.Common.{AreFilesShort, AreNamesSound, HasProgram, Image, Images, IsImagePlain, IsIn, IsPlain, None, Some, Source, ends, first_flat_fault, flat_of, from_flat_map, given, hierarchy_of, leaf_owned, leaf_threads, leaves_of}
use Rattle.spec_laws.proofs.Common.{rules, settled_of, slice_get, subst, sym, threads_of, ℕ, ◌≡◌}
use Rattle.flat_laws.proofs.AreWithin.{flat_is_within}
use Rattle.flat_laws.proofs.ShortTrees.{short_few}
use Rattle.spec_laws.proofs.ComponentNames.{leaves_named}
use Rattle.spec_laws.proofs.SettledNumbers.{badges_small, numbers_small}
use Rattle.spec_laws.proofs.StackPages.{domain_there, thread_leaf}
use Rattle.vspace_layout.specs.declared.thread.ThreadOf.{ThreadOf}

programs_there : (s : Source) (images : Images) → AreFilesShort s → AreNamesSound s → (d : ℕ) (x : ThreadOf)
    → IsIn x (threads_of (given s (flat_of s) (settled_of s) images) d)
    → HasProgram (given s (flat_of s) (settled_of s) images) x.leaf
programs_there s images short sound d x i =
    let g = given s (flat_of s) (settled_of s) images in
    let t = from_flat_map (leaf_threads g.flat (ends g)) x (leaves_of g.flat d) i in
    let y = domain_there g d t.0 t.1 in let own = leaf_owned (hierarchy_of s) d t.0 y.0 y.1 y.2 in
    subst (HasProgram g) (sym (thread_leaf g t.0 x t.2)) (search (rules, leaves_named))

pub layouts_are_plain : (s : Source) (images : Images) → AreFilesShort s → AreNamesSound s → first_flat_fault s ≡ None
    → ((m : ℕ) (image : Image) → slice_get images.images m ≡ Some image → IsImagePlain image)
    → IsPlain (given s (flat_of s) (settled_of s) images)
layouts_are_plain s images short sound flat plain = record {
  badges = badges_small s (flat_is_within s sound flat (short_few s short)).ends;
  numbers = λ k c at. numbers_small s k c;
  programs = programs_there s images short sound;
  images = plain;
}
