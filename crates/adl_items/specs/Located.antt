-- An item with its place, as definitions speak of it.
use Rattle.std.specs.Prelude.{List, map}
use Rattle.adl_meaning.specs.declared.item_at.ItemAt.{ItemAt}
use Rattle.adl_items.specs.declared.located.Located.{Located}

abbrev pub located : {T : Type 0} → Located T → ItemAt × T
located x = (x.at, x.item.now)

-- the items without their places
abbrev pub trees : {T : Type 0} → List (Located T) → List T
trees xs = map (λ x. x.item.now) xs
