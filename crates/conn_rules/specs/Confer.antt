-- What the rights of a row confer.
use Rattle.std.specs.Prelude.{Bool, ◌&&◌, ◌==◌, not, cond, Option, Some, None}
use Rattle.conn_rules.specs.Below.{Authority, From, Interrupt, Reset, Rights, number_of}
use Rattle.cap_model.specs.Confers.{kind_confers, option_confers}
use Rattle.cap_model.specs.Lessened.{both_rights}
use Rattle.cap_model.specs.declared.kind.Kind.{Kind}
use Rattle.cap_model.specs.declared.kind.Kind.TheVariants.{Endpoint, Notification, Frame, Irq}
use Rattle.conn_rules.specs.Row.{W, same_connector, same_role}
use Rattle.conn_rules.specs.declared.rule.ObjectKind.{ObjectKind}
use Rattle.conn_rules.specs.declared.rule.ObjectKind.TheVariants.{NoObject, OfEndpoint, OfNotification, OfFrames, OfDevice, OfIrq}
use Rattle.conn_rules.specs.declared.rule.RuleRow.{RuleRow}

-- the kind of object that the row's capabilities lead to
abbrev pub kind_of : ObjectKind → Option Kind
kind_of NoObject = None
kind_of OfEndpoint = Some Endpoint
kind_of OfNotification = Some Notification
kind_of OfFrames = Some Frame
kind_of OfDevice = Some Frame
kind_of OfIrq = Some Irq

-- whether the row stands for the slot of an interrupt object
abbrev pub is_interrupt_slot : RuleRow → Bool
is_interrupt_slot row = same_connector row.connector Interrupt && same_role row.role From

-- what an interrupt object may do with the notification in its slot: the right W alone counts, and there is no Reset
abbrev pub slot_confers : Rights → Authority → Bool
slot_confers rights a = kind_confers Notification (both_rights rights W) a && not (number_of a == number_of Reset)

-- whether the row's rights on its object confer the authority
abbrev pub row_confers : RuleRow → Authority → Bool
row_confers row a =
    cond (is_interrupt_slot row) (slot_confers row.rights a) (option_confers (kind_of row.object) row.rights a)
