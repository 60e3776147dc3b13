-- IrqTwice stands at the literal that gives the number of a device's joined interrupt, where another one has the same number.
-- It has no name. An interrupt whose number isn't allowed or is missing is left out, also as the other one. Where no fault of
-- joins stands, one end alone joins an interrupt.
use Rattle.adl_meaning.specs.Prelude.{Fault, Given, at_keyword, filter_map, flat_map, option_and_then, where_true}
use Rattle.std.specs.Prelude.{Bool, List, Option, map, option_map, ℕ}
use Rattle.adl_settings.specs.EndMeaning.{irq_of}
use Rattle.adl_settings.specs.Joints.{Found}
use Rattle.adl_settings.specs.Repeated.{is_repeated}
use Rattle.cam_base.specs.declared.code.Code.TheVariants as code
pub use Rattle.adl_settings.specs.declared.twice.Irq.{Irq}

abbrev pub irq_from : ℕ → Given → Irq
irq_from number g = record { number = number; place = g.value.place }

abbrev pub irq_at : Found → Option Irq
irq_at f = option_and_then (λ number. option_map (irq_from number) f.irq) (irq_of f)

abbrev pub irqs_in : List Found → List Irq
irqs_in ends = filter_map irq_at ends

abbrev pub irqs : List (List Found) → List Irq
irqs connections = flat_map irqs_in connections

-- an interrupt, where twice says which numbers stand twice
abbrev pub irq_twice_at : (ℕ → Bool) → Irq → List Fault
irq_twice_at twice a = where_true (twice a.number) (at_keyword code.IrqTwice a.place)

abbrev pub irqs_twice : List Irq → List Fault
irqs_twice all = flat_map (irq_twice_at (is_repeated (map (λ a. a.number) all))) all
