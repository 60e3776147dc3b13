-- The tables of a source without faults are fit, and its layouts are limited.
use Rattle.spec_laws.proofs.Common.{AreFilesShort, AreNamesSound, AreNumbered, AreSound, Images, IsFit, IsLimited, None, Source, arith, first_flat_fault, first_page_limit, first_setting_fault, first_slot_fault, first_space_fault, first_type_fault}
use Rattle.spec_laws.proofs.Common.{flat_of, flat_small, given, one_assembly, refl, sections_stand, settings_sound, settled_of, tables_from, ◌≡◌}
use Rattle.spec_laws.proofs.Bounds.{can_build, can_lay, dotted, few_uses}
use Rattle.spec_laws.proofs.FrameFits.{frames_kept}
use Rattle.spec_laws.proofs.Interrupts.{one_line}
use Rattle.spec_laws.proofs.MemorySizes.{addresses_whole}
use Rattle.spec_laws.proofs.PageCounts.{few_pages}
use Rattle.spec_laws.proofs.PageFits.{pages_placed, threads_mapped}
use Rattle.spec_laws.proofs.SeenMemory.{memory_seen}
use Rattle.spec_laws.proofs.SettledNumbers.{priorities_fit}
use Rattle.spec_laws.proofs.StackPages.{stacks_some}
use Rattle.spec_laws.proofs.PartBounds.{uses_few}

pub tables_are_fit : (s : Source) (images : Images) → AreFilesShort s → AreNamesSound s → first_type_fault s ≡ None
    → first_flat_fault s ≡ None → first_setting_fault s ≡ None
    → AreNumbered (flat_of s) images → AreSound images → first_space_fault (flat_of s) images ≡ None
    → first_slot_fault s (flat_of s) ≡ None → first_page_limit (given s (flat_of s) (settled_of s) images) ≡ None
    → IsFit (tables_from s (flat_of s) (settled_of s) images)
tables_are_fit s images short sound types flat settings numbered sections space slots pages =
    let g = given s (flat_of s) (settled_of s) images in
    let t = tables_from s (flat_of s) (settled_of s) images in let one = one_assembly s sound in
    let can = can_lay s images short sound types flat settings in
    let build = can_build s images short sound types flat settings numbered sections space slots pages in
    let few = (few_pages g one.0 one.1 pages).pages in
    record {
      laid = refl;
      connections = build.few.connections;
      objects = build.few.objects;
      domains = λ d x at. record {
        slots = let l = uses_few t refl refl (flat_small s sound flat) (few_uses s sound slots) can few d in omega (arith, l);
        pages = λ p i. let q = pages_placed g (sections_stand g numbered sections space) can few d p i in record {
          aligned = q.aligned;
          below = q.below;
          frame = build.shown d p i;
        };
        rise = build.rise d;
        mapped = λ x i. threads_mapped g can d x i;
      };
      frames = frames_kept g (λ k c at. addresses_whole s k c);
      priorities = priorities_fit s;
      one_line = one_line s sound (dotted s short) types (settings_sound s settings);
    }

pub layouts_are_limited : (s : Source) (images : Images) → AreFilesShort s → AreNamesSound s → first_type_fault s ≡ None
    → first_flat_fault s ≡ None → first_setting_fault s ≡ None → first_slot_fault s (flat_of s) ≡ None
    → first_page_limit (given s (flat_of s) (settled_of s) images) ≡ None → IsLimited (given s (flat_of s) (settled_of s) images)
layouts_are_limited s images short sound types flat settings slots pages =
    let one = one_assembly s sound in let small = flat_small s sound flat in
    let few = few_pages (given s (flat_of s) (settled_of s) images) one.0 one.1 pages in
    record {
      domains = small.domains;
      connections = small.connections;
      uses = (few_uses s sound slots).all;
      pages = few.pages;
      tables = few.tables;
      stacks = stacks_some s images settings;
      seen = memory_seen s images sound (dotted s short) types;
    }
