-- DeviceOverlap stands at the literal that gives the address of a joined dataport of a device, where another one shares a
-- physical page with it. It has no name. A dataport whose address or size isn't allowed or is missing is left out, also as
-- the other one. A dataport that several ends join is one. Both begin at a page and have whole pages.
use Rattle.adl_meaning.specs.Prelude.{Fault, Given, at_keyword, filter_map, flat_map, list_any, option_and_then, where_true}
use Rattle.std.specs.Prelude.{List, Option, map, option_map, ℕ}
use Rattle.adl_settings.specs.declared.overlaps.DeviceRegion.{DeviceRegion}
use Rattle.adl_settings.specs.EndMeaning.{bytes_of, paddr_of}
use Rattle.adl_settings.specs.Joints.{Found}
use Rattle.name_tables.specs.declared.region.Region.{Region}
use Rattle.name_tables.specs.Sharing.{shares}
use Rattle.cam_base.specs.declared.code.Code.TheVariants as code

-- the pages from an address on, by the numbers of the leaf and of the interface
abbrev pub region_from : Found → ℕ → ℕ → Given → DeviceRegion
region_from f bytes first g = record {
  pages = record { key = (f.joint.end.leaf, f.joint.end.member); first = first; count = bytes };
  place = g.value.place;
}

-- the region of an end, where both numbers are allowed
abbrev pub region_of : Found → Option DeviceRegion
region_of f = option_and_then (λ bytes. option_and_then (λ first. option_map (region_from f bytes first) f.paddr)
    (paddr_of f)) (bytes_of f)

abbrev pub regions_in : List Found → List DeviceRegion
regions_in ends = filter_map region_of ends

abbrev pub regions : List (List Found) → List DeviceRegion
regions connections = flat_map regions_in connections

-- a region, where one of these shares a page with it
abbrev pub overlap_at : List Region → DeviceRegion → List Fault
overlap_at all a = where_true (list_any (shares a.pages) all) (at_keyword code.DeviceOverlap a.place)

abbrev pub overlaps : List DeviceRegion → List Fault
overlaps all = flat_map (overlap_at (map (λ a. a.pages) all)) all
