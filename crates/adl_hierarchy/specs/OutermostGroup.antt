-- The outermost group above a path inside a body. Of the instances on the path, that with the last name among them, it is
-- the group of the first that stands in one. The path of the group is the path of the composition in which it stands, and
-- the group's name.
use Rattle.std.specs.Prelude.{◌≡◌, ℕ, [], ◌∷◌, ◌++◌, Some, None}
use Rattle.adl_meaning.specs.Prelude.{Hierarchy, Name, Part, Path}
use Rattle.adl_hierarchy.specs.PartAt.{part_at}

pub record IsOutermostGroup (h : Hierarchy) (k : ℕ) (p : Path) (d : Path) : Type 0 where
  pub above : Path
  pub name : Name
  pub below : Path
  pub split : p ≡ above ++ name ∷ below
  pub part : Part
  pub stands : part_at h k (above ++ name ∷ []) ≡ Some part
  pub group : Name
  pub grouped : part.group ≡ Some group
  pub path : d ≡ above ++ group ∷ []
  pub first : (q : Path) (n : Name) (r : Path) (x : Part) → above ≡ q ++ n ∷ r → part_at h k (q ++ n ∷ []) ≡ Some x
      → x.group ≡ None
