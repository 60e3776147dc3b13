-- A spec's objects by place, and their places by name.
use Rattle.std.specs.Prelude.{ℕ, List, [], Option, Some, None, slice_get}
use Rattle.std.specs.List.{position}
use Rattle.std.specs.Str.{bytes_eq}
use Rattle.cap_model.specs.declared.object.Object.{Object}
use Rattle.cap_model.specs.declared.spec.Entry.{Entry}
use Rattle.cap_model.specs.declared.spec.Spec.{Spec}

abbrev pub entry_object : Option Entry → Option Object
entry_object None = None
entry_object (Some entry) = Some entry.object

abbrev pub entry_name : Option Entry → List ℕ
entry_name None = []
entry_name (Some entry) = entry.name

-- the object at a place, none past the end
abbrev pub object_at : Spec → ℕ → Option Object
object_at spec place = entry_object (slice_get spec.entries place)

-- the name of the object at a place, empty past the end
abbrev pub name_at : Spec → ℕ → List ℕ
name_at spec place = entry_name (slice_get spec.entries place)

-- the place of the first object of that name
abbrev pub place_of : List Entry → List ℕ → Option ℕ
place_of entries name = position (λ entry. bytes_eq entry.name name) entries
