-- The connector table: the capabilities that an end of a connection gets, and the authorities that they are for.
--
--   Connector       End   Object         Rights  Authorities
--   Rpc             from  endpoint       WP      SyncSend, Call, Reset
--                   to    endpoint       R       Receive, Reset
--   Notification    from  notification   W       AsyncSend, Reset
--                   to    notification   R       Receive, Reset
--   SharedMemory    from  frames         RW      Read, Write
--                   to    frames         RW      Read, Write
--   Mmio            from  device frames  RW      Read, Write on the device
--                   to    nothing
--   Interrupt       from  notification   W       the device has AsyncSend on the connection
--                   to    notification   R       Receive, Reset
--                         interrupt              Handle on the device
--   Direct          from  nothing
--                   to    nothing
--
-- Where no other object is named, the authorities are on the connection. Rights on frames and their authorities are
-- lessened to what the end's access setting allows. The row of an interrupt's `from` end stands for the interrupt
-- object's slot, which holds the notification.
use Rattle.std.specs.Prelude.{◌^◌, ℕ, Bool, true, false, ◌&&◌, ◌==◌, List, [], ◌∷◌, Option, None, Some}
use Rattle.conn_rules.specs.Below.{AsyncSend, Authority, Call, Connector, Direct, From, Handle, Interrupt, Mmio, Notification, Read, Receive, Reset, Rights, Role, Rpc, SharedMemory, SyncSend, To, Write, filter, list_any, number_of}
use Rattle.std.specs.Int.Bits.{bit_or}
use Rattle.conn_rules.specs.declared.rule.ObjectKind.{ObjectKind}
use Rattle.conn_rules.specs.declared.rule.ObjectKind.TheVariants.{NoObject, OfEndpoint, OfNotification, OfFrames, OfDevice, OfIrq}
use Rattle.conn_rules.specs.declared.rule.RuleRow.{RuleRow}

-- the set of these authorities
abbrev pub bits_of : List Authority → ℕ
bits_of [] = 0
bits_of (a ∷ rest) = bit_or (bits_of rest) (2 ^ number_of a)

-- whether the authority is one of these
abbrev pub among : List Authority → Authority → Bool
among list a = list_any (λ b. number_of a == number_of b) list

abbrev pub row : Connector → Role → ObjectKind → Rights → List Authority → RuleRow
row connector role object rights authorities = record {
  connector = connector;
  role = role;
  object = object;
  rights = rights;
  authorities = record { bits = bits_of authorities };
}

abbrev pub NONE : Rights
NONE = record { read = false; write = false; grant = false; reply = false }

abbrev pub R : Rights
R = record NONE { read = true }

abbrev pub W : Rights
W = record NONE { write = true }

abbrev pub RW : Rights
RW = record NONE { read = true; write = true }

abbrev pub WP : Rights
WP = record NONE { write = true; reply = true }

abbrev pub table : List RuleRow
table =
    row Rpc From OfEndpoint WP (SyncSend ∷ Call ∷ Reset ∷ [])
    ∷ row Rpc To OfEndpoint R (Receive ∷ Reset ∷ [])
    ∷ row Notification From OfNotification W (AsyncSend ∷ Reset ∷ [])
    ∷ row Notification To OfNotification R (Receive ∷ Reset ∷ [])
    ∷ row SharedMemory From OfFrames RW (Read ∷ Write ∷ [])
    ∷ row SharedMemory To OfFrames RW (Read ∷ Write ∷ [])
    ∷ row Mmio From OfDevice RW (Read ∷ Write ∷ [])
    ∷ row Mmio To NoObject NONE []
    ∷ row Interrupt From OfNotification W (AsyncSend ∷ [])
    ∷ row Interrupt To OfNotification R (Receive ∷ Reset ∷ [])
    ∷ row Interrupt To OfIrq NONE (Handle ∷ [])
    ∷ row Direct From NoObject NONE []
    ∷ row Direct To NoObject NONE []
    ∷ []

abbrev pub same_connector : Connector → Connector → Bool
same_connector Rpc Rpc = true
same_connector Notification Notification = true
same_connector SharedMemory SharedMemory = true
same_connector Mmio Mmio = true
same_connector Interrupt Interrupt = true
same_connector Direct Direct = true
same_connector _ _ = false

abbrev pub same_role : Role → Role → Bool
same_role From From = true
same_role To To = true
same_role _ _ = false

-- the rows of one end
abbrev pub rows_of : Connector → Role → List RuleRow
rows_of connector role = filter (λ r. same_connector r.connector connector && same_role r.role role) table

-- one row, and perhaps a second
abbrev pub listed : RuleRow → Option RuleRow → List RuleRow
listed first None = first ∷ []
listed first (Some second) = first ∷ second ∷ []
