-- What is known of a build: that no fault of any phase stands in its source and its section tables.
use Rattle.arch_compile.proofs.Common.{AreImagesOf, AreNumbered, AreSound, Build, Contents, Images, IsBuildOf, IsFaultless, IsWhole, List, None, Source, faultless, first_edge_fault, first_front_fault, first_imaged_fault, first_layout_fault}
use Rattle.arch_compile.proofs.Common.{first_page_limit, first_slot_fault, first_space_fault, first_table_fault, flat_of, found_beside, found_count, images_beside, images_numbered, images_sound, no_first, no_second, option_or, refl, root_of}
use Rattle.arch_compile.proofs.Common.{settled_of, sound_within, source_tables, spaced, table_names, types, ℕ, ◌≡◌}
use Rattle.adl_hierarchy.specs.Spelled.{AreSpelled}
use Rattle.flat_laws.specs.ShortFiles.{AreFilesShort}
use Rattle.front_end.proofs.LoadedShort.{short_spelled}
use Rattle.front_end.proofs.LoadedWhole.{loaded_whole}

pub record AreFacts (contents : Contents) (s : Source) (images : Images) : Type 0 where
  pub short : AreFilesShort s
  pub spelled : AreSpelled s
  pub faultless : IsFaultless s
  pub read : AreImagesOf contents (root_of s) s (flat_of s) images
  pub numbered : AreNumbered (flat_of s) images
  pub sound : AreSound images
  pub space : first_space_fault (flat_of s) images ≡ None
  pub slot : first_slot_fault s (flat_of s) ≡ None
  pub page : first_page_limit (spaced s images) ≡ None
  pub edge : first_edge_fault (source_tables s) ≡ None

-- the facts of a build, with its images
pub build_facts : (root : List ℕ) (contents : Contents) (b : Build) → IsBuildOf root contents b
    → AreFacts contents b.meaning.source (images_beside contents b.meaning.source)
build_facts root contents b is =
    let s = b.meaning.source in let found = found_beside contents s in
    let images = images_beside contents s in
    let whole : IsWhole s = loaded_whole contents root s is.meant.loaded in
    let front : first_front_fault s ≡ None = no_first (first_front_fault s) (first_layout_fault s found) is.clean in
    let layout : first_layout_fault s found ≡ None = no_second (first_front_fault s) (first_layout_fault s found) is.clean in
    let table : first_table_fault (root_of s) s (flat_of s) found ≡ None =
    no_first (first_table_fault (root_of s) s (flat_of s) found) (first_imaged_fault s images) layout in
    let imaged : first_imaged_fault s images ≡ None = no_second (first_table_fault (root_of s) s (flat_of s) found)
    (first_imaged_fault s images) layout in
    let space = first_space_fault (flat_of s) images in let slot = first_slot_fault s (flat_of s) in
    let page = first_page_limit (spaced s images) in let edges = first_edge_fault (source_tables s) in
    let behind = no_second space (option_or slot (option_or page edges)) imaged in
    let last = no_second slot (option_or page edges) behind in
    record {
      short = whole.short;
      spelled = short_spelled s whole.short;
      faultless = faultless s front;
      read = record { clean = table; images = refl };
      numbered = images_numbered (root_of s) s (flat_of s) found (found_count contents (table_names (root_of s) s (flat_of s))
          found refl) table
          (sound_within s (flat_of s) (settled_of s) (record {
            whole = whole;
            none = front;
            meant = record { is_flat = refl; is_settled = refl };
          }));
      sound = λ n image at x i. images_sound (types s (flat_of s)) found n image at x i;
      space = no_first space (option_or slot (option_or page edges)) imaged;
      slot = no_first slot (option_or page edges) behind;
      page = no_first page edges last;
      edge = no_second page edges last;
    }
