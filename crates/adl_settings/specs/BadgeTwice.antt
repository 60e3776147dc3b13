-- BadgeTwice stands at an end with a badge, where another end of its connection has the same badge; default badges count. Its
-- name is that of the connection. An end whose badge isn't allowed is left out, also as the other one.
use Rattle.adl_meaning.specs.Prelude.{Fault, Name, Path, filter_map, flat_map, option_map_or, where_true}
use Rattle.std.specs.Prelude.{Bool, List, None, Option, [], if◌then◌else◌, length, slice_get, unwrap_or, ℕ, ◌-◌}
use Rattle.adl_settings.specs.EndMeaning.{badge_of}
use Rattle.adl_settings.specs.Joints.{Found, has_badge}
use Rattle.adl_settings.specs.Repeated.{is_repeated}
use Rattle.cam_base.specs.declared.code.Code.TheVariants as code

-- the last name of a path
abbrev pub last_in : Path → Name
last_in p = unwrap_or (slice_get p (length p - 1)) []

-- the badge of an end that has one
abbrev pub own_badge : Found → Option ℕ
own_badge f = if has_badge f.joint then badge_of f else None

-- an end, where twice says which badges stand twice
abbrev pub badge_twice_at : (ℕ → Bool) → Found → List Fault
badge_twice_at twice f =
    option_map_or
    (λ n. where_true (twice n) (record {
      code = code.BadgeTwice;
      place = f.joint.end.place;
      name = last_in f.joint.connection.path;
    }))
    (own_badge f) []

-- those of a connection
abbrev pub badges_twice_in : List Found → List Fault
badges_twice_in ends = flat_map (badge_twice_at (is_repeated (filter_map own_badge ends))) ends
