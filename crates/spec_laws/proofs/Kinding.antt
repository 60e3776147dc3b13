-- Each object is of the kind that its name says
use Rattle.spec_laws.proofs.Common.{Directory, Each, FrameOf, IsIn, Layer, Level, List, Mapping, Object, Part, Some, TableOf, Tables, [], addresses_same, ap, each_append, entry, entry_name, get_map, in_place}
use Rattle.spec_laws.proofs.Common.{kind_of_object, level_series, levels_of_addresses, map, object, page_mapping, pages_at, parts, place, refl, same_Some, sizes, slice_get, spec_of, subst}
use Rattle.spec_laws.proofs.Common.{rules, suc, sym, table_of, tables_at, zero, ℕ, ◌+◌, ◌∙◌, ◌∷◌, ◌≡◌}
use Rattle.cap_model.specs.declared.kind.Kind.TheVariants as kinds
use Rattle.cap_model.specs.declared.object.Object.TheVariants as objects
use Rattle.page_tables.specs.Levels.{level_of, numbered as in_levels}
use Rattle.spec_laws.proofs.EachPart.{of_every}
use Rattle.spec_laws.proofs.Names.{same_series}
use Rattle.spec_laws.proofs.TablesKept.{moved, object_is, standing}
use Rattle.spec_laws.specs.Kinded.{SayKinds, kind_of}
use Rattle.spec_laws.proofs.Locks.{each_map, part_there}

-- ---- page tables

abbrev OfLevel : Object → Type 0
OfLevel o = kind_of_object o ≡ kinds.Pages (level_of o)

all_of_level : (first link : ℕ) (ys : List Layer) → Each OfLevel (in_levels first link ys)
all_of_level first link [] = tt
all_of_level first link (y ∷ ys) = each_append OfLevel (in_levels first (first + sizes ys) ys)
    (map (table_of y.shape link) y.tables) (all_of_level first (first + sizes ys) ys)
    (each_map OfLevel (table_of y.shape link) y.tables (λ r. refl))

each_at : {X : Type 0} (P : X → Type 0) (xs : List X) (n : ℕ) (x : X) → Each P xs → slice_get xs n ≡ Some x → P x
each_at P [] n x h e = cc
each_at P (y ∷ ys) zero x h e = let same : y ≡ x = cc in subst P same h.0
each_at P (y ∷ ys) (suc n) x h e = each_at P ys n x h.1 e

pub series_kind : (l : Level) → kinds.Pages l ≡ kind_of (level_series l)
series_kind Directory = refl
series_kind _ = refl

module _ (t : Tables) where
  -- levels are the same wherever tables and frames stand
  levels_same : (first frames a b d j : ℕ) (o p : Object) → slice_get (tables_at t first frames d) j ≡ Some o
      → slice_get (tables_at t a b d) j ≡ Some p → level_of o ≡ level_of p
  levels_same first frames a b d j o p e f =
      let ms : ℕ → List Mapping = λ n. map (page_mapping n) (pages_at t d) in
      let same : map level_of (tables_at t first frames d) ≡ map level_of (tables_at t a b d) =
      search (rules, levels_of_addresses, addresses_same) in
      same_Some (level_of o) (level_of p) (sym (get_map level_of (tables_at t first frames d) j o e)
      ∙ ap (λ z. slice_get z j) same ∙ get_map level_of (tables_at t a b d) j p f)

  pub table_kind : (d j : ℕ) (o : Object) → slice_get (tables_at t 0 0 d) j ≡ Some o
      → kind_of_object (object t (TableOf d j)) ≡ kind_of (level_series (level_of o))
  table_kind d j o e =
      let first = place t (TableOf d 0) in let frames = place t (FrameOf 0) in
      let m = moved t 0 0 first frames d j o e in
      search (rules, object_is, each_at, standing, all_of_level, levels_same, series_kind)

  -- ---- parts

  abbrev Kinded : Part → Type 0
  Kinded p = kind_of_object (object t p.what) ≡ kind_of p.series

  kinded : (p : Part) → IsIn p (parts t) → Kinded p
  kinded = of_every t Kinded (search (rules, table_kind))

  pub kinds_are : SayKinds (spec_of t)
  kinds_are at n s o name is =
      let p = part_there t at o is in let named = ap entry_name (get_map (entry t) (parts t) at p.0 p.1) in
      let same : p.0.series ≡ s = same_series p.0.series s p.0.number n (sym named ∙ name) in
      ap kind_of_object (sym p.2) ∙ kinded p.0 (in_place p.0 (parts t) at p.1) ∙ ap kind_of same
