-- Noting what the elements of lists give.
use Rattle.adl_settings.proofs.Common.{Given, IsPermutation, List, None, Option, Some, Value, append_assoc, bad_unless, bad_value, is_some, list_any, list_any-IsPermutation, meant, noted-append, refl, sym, ◌≡◌}
use Rattle.name_tables.specs.Sharing.{shares}
use Rattle.name_tables.specs.declared.region.Region.{Region}

-- a value is at fault where the setting means nothing
pub bad_meant : {X : Type 0} (allowed : Value → Option X) (default : X) (o : Option Given)
    → bad_unless (is_some (meant allowed default o)) o ≡ bad_value allowed o
bad_meant allowed default None = refl
bad_meant allowed default (Some g) = refl

pub ruleset noted_values = (noted-append, append_assoc, bad_meant)

-- an index of the pages of all regions finds the regions that share a page with one
pub shared_in_index : (a : Region) (all index : List Region) → IsPermutation all index
    → list_any (shares a) index ≡ list_any (shares a) all
shared_in_index a all index same = sym (list_any-IsPermutation (shares a) all index same)
