-- A source that is loaded is whole.
use Rattle.front_end.proofs.Common.{Contents, IsLoaded, IsLoadedBy, IsSource, IsWhole, List, None, Ok, Option, Some, Source, SourceFile, [], name_of_file, refl, root_name, subst, sym, ℕ, ◌∷◌, ◌≡◌}
use Rattle.std.specs.Str.{IsUtf8}
use Rattle.adl_import.proofs.Utf8Names.{root_name_utf8}
use Rattle.cam_base.proofs.GrammarFronts.{head_is}
use Rattle.front_end.proofs.LoadedFew.{loaded_few}
use Rattle.front_end.proofs.LoadedShort.{loaded_short}

no_head : {X : Type 0} (y : X) (ys : List X) → [] ≡ y ∷ ys → ⊥
no_head y ys e = cc

-- the first file of a source is its root
root_first : (root : List ℕ) (files : List SourceFile) → IsSource root files → (let s : Source = record { files = files } in
    name_of_file s 0 ≡ root)
root_first root [] is = absurd (no_head root _ is.equation)
root_first root (f ∷ fs) is = head_is f.name root _ _ is.equation

root_is : (contents : Contents) (root : List ℕ) (s : Source) → IsLoaded contents root (Ok s) → IsUtf8 (name_of_file s 0)
root_is contents root s loaded = go (root_name root) refl loaded
  where
    go : (name : Option (List ℕ)) → root_name root ≡ name → IsLoadedBy contents root name (Ok s) → IsUtf8 (name_of_file s 0)
    go None e l = absurd l
    go (Some name) e l = subst IsUtf8 (sym (root_first name s.files l.source)) (root_name_utf8 root name e)

pub loaded_whole : (contents : Contents) (root : List ℕ) (s : Source) → IsLoaded contents root (Ok s) → IsWhole s
loaded_whole contents root s loaded = record {
  few = loaded_few contents root s loaded;
  short = loaded_short contents root s loaded;
  root = root_is contents root s loaded;
}
