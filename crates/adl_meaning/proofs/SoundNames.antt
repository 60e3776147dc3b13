-- Where no fault of names stands.
use Rattle.std.proofs.Common.{◌≡◌, List, [], ◌∷◌, ◌++◌, None, refl}
use Rattle.cam_base.specs.declared.place.Fault.{Fault}
use Rattle.adl_ast.specs.declared.composition.Assembly.{Assembly}
use Rattle.adl_ast.specs.declared.source.Source.{Source}
use Rattle.adl_meaning.specs.CompositeBody.{composite_bodies}
use Rattle.adl_meaning.specs.Duplicate.{duplicates}
use Rattle.adl_meaning.specs.Export.{misfit_exports}
use Rattle.adl_meaning.specs.Items.{assemblies}
use Rattle.adl_meaning.specs.NameFaults.{name_faults, first_name_fault, AreNamesSound}
use Rattle.adl_meaning.specs.NoAssembly.{no_assembly, none_of}
use Rattle.adl_meaning.specs.Recursive.{recursive_types}
use Rattle.adl_meaning.specs.SecondAssembly.{second_assemblies, second_of}
use Rattle.adl_meaning.specs.Unknown.{unknown_names}
use Rattle.adl_meaning.specs.declared.item_at.ItemAt.{ItemAt}
use Rattle.adl_meaning.proofs.Least.{least-empty}

both_empty : (xs ys : List Fault) → xs ++ ys ≡ [] → (xs ≡ []) × (ys ≡ [])
both_empty [] ys e = (refl, e)
both_empty (x ∷ xs) ys e = cc

-- where no fault of names is first, none stands
pub names_sound : (s : Source) → first_name_fault s ≡ None → AreNamesSound s
names_sound s e =
    let a = second_assemblies s in
    let b = no_assembly s in
    let c = duplicates s in
    let d = unknown_names s in
    let r = recursive_types s in
    let t = composite_bodies s in
    let g = both_empty (a ++ b ++ c ++ d ++ r ++ t) (misfit_exports s) (least-empty (name_faults s) e) in
    let f = both_empty (a ++ b ++ c ++ d ++ r) t g.0 in
    let k = both_empty (a ++ b ++ c ++ d) r f.0 in
    let m = both_empty (a ++ b ++ c) d k.0 in
    let n = both_empty (a ++ b) c m.0 in
    let o = both_empty a b n.0 in
    record {
      one_assembly = o.0;
      an_assembly = o.1;
      no_duplicates = n.1;
      all_known = m.1;
      none_recursive = k.1;
      bodies_fit = f.1;
      exports_fit = g.1;
    }

-- then there is one assembly
pub one_assembly : (s : Source) → AreNamesSound s → (x : ItemAt × Assembly) × (assemblies s ≡ x ∷ [])
one_assembly s sound = by_case (assemblies s) refl sound.one_assembly sound.an_assembly
  where
    by_case : (xs : List (ItemAt × Assembly)) → assemblies s ≡ xs → second_of xs ≡ [] → none_of xs ≡ []
        → (x : ItemAt × Assembly) × (assemblies s ≡ x ∷ [])
    by_case [] e p q = cc
    by_case (x ∷ []) e p q = (x, e)
    by_case (x ∷ y ∷ zs) e p q = cc
