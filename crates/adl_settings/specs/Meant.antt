-- What a setting means: what its value means, and where it has none, the default. Where its value isn't one of those that are
-- allowed, it means nothing, and the literal that gives the value is at fault.
use Rattle.adl_meaning.specs.Prelude.{Fault, Given, Value, option_and_then, where_false}
use Rattle.std.specs.Prelude.{Bool, List, None, Option, Some, [], if◌then◌else◌, is_some}
use Rattle.cam_base.specs.declared.code.Code.TheVariants as code

-- what a value means, where allowed says what allowed values mean
abbrev pub meaning : {X : Type 0} → (Value → Option X) → Option Given → Option X
meaning allowed o = option_and_then (λ g. allowed g.value) o

abbrev pub meant : {X : Type 0} → (Value → Option X) → X → Option Given → Option X
meant allowed default None = Some default
meant allowed default (Some g) = allowed g.value

-- the fault at a literal that gives a value which isn't allowed, by the name of what gives it
abbrev pub bad_unless : Bool → Option Given → List Fault
bad_unless right None = []
bad_unless right (Some g) = where_false right (record { code = code.Value; place = g.value.place; name = g.name })

abbrev pub bad_value : {X : Type 0} → (Value → Option X) → Option Given → List Fault
bad_value allowed o = bad_unless (is_some (meaning allowed o)) o

-- the value, where the setting has a meaning
abbrev pub where_set : Bool → Option Given → Option Given
where_set on o = if on then o else None
