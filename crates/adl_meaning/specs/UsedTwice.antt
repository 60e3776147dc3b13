-- UsedTwice stands at an end that joins an interface of a leaf that another end joins too, where one end alone may join it,
-- or where both ends are of one connection. Its name is the last word of the end.
use Rattle.std.specs.Prelude.{◌==◌, nat_le, Bool, ◌&&◌, ◌||◌, List}
use Rattle.adl_meaning.specs.Below.{Fault, count_by, flat_map}
use Rattle.cam_base.specs.declared.code.Code.TheVariants as code
use Rattle.adl_meaning.specs.Faults.{where_true}
use Rattle.adl_meaning.specs.Hierarchy.{Hierarchy}
use Rattle.adl_meaning.specs.JoinedEnds.{JoinedEnd, joined_ends, is_at}

-- whether f keeps e from joining its interface; each end with this property finds itself
abbrev pub clashes : JoinedEnd → JoinedEnd → Bool
clashes e f = is_at e.end.leaf e.end.member f && (e.once || f.connection == e.connection)

abbrev pub used_twice : List JoinedEnd → JoinedEnd → List Fault
used_twice all e = where_true (nat_le 2 (count_by (clashes e) all)) (record {
  code = code.UsedTwice;
  place = e.end.place;
  name = e.word;
})

abbrev pub used_twice_in : Hierarchy → List Fault
used_twice_in h = flat_map (used_twice (joined_ends h)) (joined_ends h)
