-- Which files a source has. A file imports another where one of its imports, of no built-in name, gives the other's name. The
-- files are the root and all that imports reach from it. They stand in the order in which they are met: the root first, then
-- what the imports give, file by file and in each in the order of its text.
use Rattle.std.specs.Prelude.{◌≡◌, ℕ, false, List, ◌∷◌, ◌++◌, map, Some}
use Rattle.std.specs.List.{flat_map}
use Rattle.adl_ast.specs.declared.file.Import.{Import}
use Rattle.adl_ast.specs.declared.source.SourceFile.{SourceFile}
use Rattle.adl_hierarchy.specs.Once.{IsOnce}
use Rattle.adl_import.specs.Imports.{imports_of, is_built_in, name_given}
use Rattle.adl_import.specs.Sources.{meetings_of}
use Rattle.cam_base.specs.Gather.{IsIn}
use Rattle.front_laws.specs.InOrder.{InOrder}

-- the file has an import that gives the name
pub record ImportsName (root : List ℕ) (file : SourceFile) (name : List ℕ) : Type 0 where
  pub import : Import
  pub stands : IsIn import (imports_of file.tree)
  pub own : is_built_in import ≡ false
  pub gives : name_given root file.name import ≡ Some name

-- of these files the root, or one whose name a file gives that is reached
pub data IsReached (root : List ℕ) (files : List SourceFile) : List ℕ → Type 0 where
  the_root : IsReached root files root
  by_import : (file : SourceFile) (name : List ℕ) → IsReached root files file.name → IsIn file files → ImportsName root file name
      → IsReached root files name

-- the names in the order in which they are met
abbrev pub names_met : List ℕ → List SourceFile → List (List ℕ)
names_met root files = root ∷ map (λ m. m.0) (flat_map (meetings_of root) files)

-- the one is met before the other is
pub record IsMetBefore (met : List (List ℕ)) (a b : List ℕ) : Type 0 where
  pub front : List (List ℕ)
  pub rest : List (List ℕ)
  pub split : met ≡ front ++ a ∷ rest
  pub unmet : IsIn b front → ⊥

pub record AreReached (root : List ℕ) (files : List SourceFile) : Type 0 where
  pub reached : (name : List ℕ) → (IsIn name (map (λ f. f.name) files) → IsReached root files name)
      × (IsReached root files name → IsIn name (map (λ f. f.name) files))
  pub once : IsOnce (map (λ f. f.name) files)
  pub order : InOrder (IsMetBefore (names_met root files)) (map (λ f. f.name) files)
