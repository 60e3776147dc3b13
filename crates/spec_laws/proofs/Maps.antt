-- The tables of a source without faults keep what the laws of images ask, where each leaf of software has an image.
use Rattle.spec_laws.proofs.Common.{AreFilesShort, AreNamesSound, AreNumbered, AreSound, CanMap, FlatEnd, HaveImages, Images, Leaf, None, Some, Source, and_from, below, end_rule, end_setting, ends_typed, eq-eqb, first_flat_fault, first_page_limit}
use Rattle.spec_laws.proofs.Common.{first_setting_fault, first_slot_fault, first_space_fault, first_type_fault, flat_of, get_map, given, hardware_fits, hierarchy_of, inl, inr, leaf_found, leaf_listed, leaf_members, leaf_owned, leaf_setting}
use Rattle.spec_laws.proofs.Common.{leaves_found, length, members_at, members_of_leaf, one_assembly, refl, rules, settings_sound, settled_of, slice_get, subst, sym, tables_from, ⊎_elim, ◌<◌, ◌==◌, ◌∙◌, ◌≡◌}
use Rattle.adl_ast.specs.declared.component.Member.TheVariants as members
use Rattle.spec_laws.proofs.Bounds.{can_lay, dotted, registers_there}
use Rattle.spec_laws.proofs.PageCounts.{few_pages}
use Rattle.spec_laws.proofs.SettledEnds.{end_found}
use Rattle.spec_laws.proofs.SeenMemory.{has_domain, memory_seen}
use Rattle.spec_laws.proofs.Groups.{leaves_once, leaves_some}
use Rattle.spec_laws.proofs.Registers.{same_paddr}
use Rattle.spec_laws.proofs.Stacks.{stacks_whole}

member_below : (s : Source) (e : FlatEnd) (leaf : Leaf) (m : _) → slice_get (flat_of s).leaves e.leaf ≡ Some leaf
    → slice_get (members_at s leaf.component) e.member ≡ Some m → e.member < length (leaf_members s (flat_of s) e.leaf)
member_below s e leaf m here there = subst (λ o. e.member < length (members_of_leaf s o)) (sym here)
    (below (members_at s leaf.component) e.member m there)

pub tables_can_map : (s : Source) (images : Images) → AreFilesShort s → AreNamesSound s → first_type_fault s ≡ None
    → first_flat_fault s ≡ None → first_setting_fault s ≡ None
    → AreNumbered (flat_of s) images → AreSound images → first_space_fault (flat_of s) images ≡ None
    → first_slot_fault s (flat_of s) ≡ None → first_page_limit (given s (flat_of s) (settled_of s) images) ≡ None
    → HaveImages (flat_of s) images → CanMap (tables_from s (flat_of s) (settled_of s) images)
tables_can_map s images short sound types flat settings numbered sections space slots pages have =
    let h = hierarchy_of s in let one = one_assembly s sound in
    let typed = ends_typed s sound (dotted s short) types in let right = settings_sound s settings in
    record {
      spaces = refl;
      lay = can_lay s images short sound types flat settings;
      numbered = numbered;
      sound = sections;
      clean = space;
      few = (few_pages (given s (flat_of s) (settled_of s) images) one.0 one.1 pages).pages;
      grouped = search (rules, leaf_owned, leaf_listed, leaves_once, leaves_some);
      joined = record {
        member = λ k n c e at there. let t = typed k n c e at there in member_below s e t.leaf (members.Interface t.interface)
            t.here t.joined;
        software = λ k n c e at there soft.
            let t = typed k n c e at there in
            let d = has_domain s e.leaf t.leaf t.here (hardware_fits (end_rule c.connector e.role)
            (record { interface = t.interface; hardware = t.leaf.hardware }) t.kind ∙ soft) in
            (t.leaf, d.0, t.here, d.1);
      };
      settled = record {
        image = have;
        leaf = λ leaf found at. (
          leaf_setting (leaf_found h found),
          get_map leaf_setting (leaves_found h (flat_of s)) leaf
              (leaf_found h found) (get_map (leaf_found h) (flat_of s).leaves leaf found at),
        );
        stack = stacks_whole s;
        end = λ k n c e at there. let f = end_found s typed right k n c e at there in (end_setting f.found, f.setting);
      };
      memory = record {
        pages = λ k l c e at there o.
            ((registers_there s short sound types settings).same) k l c e o.port o.other at there o.first o.second
            (and_from (o.other.leaf == o.port.leaf) (o.other.member == o.port.member)
            (eq-eqb o.other.leaf o.port.leaf (sym o.leaf)) (eq-eqb o.other.member o.port.member (sym o.member)));
        paddr = λ k l c e at there o. same_paddr s typed right k l c e o.port o.other at there o.first o.second o.leaf o.member;
        seen = λ k c at has.
            let m = memory_seen s images sound (dotted s short) types k c at (⊎_elim (λ x. inr x) (λ x. inl x) has) in
            (m.place, m.end, m.window, m.joins);
      };
    }
