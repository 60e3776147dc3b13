-- The devices of a source: where its memory stands, and which interrupts it raises, by the connections at its interfaces.
use Rattle.std.specs.Prelude.{ℕ, Bool, false, if◌then◌else◌, List, [], ◌∷◌, codes, decimal, Option, Some, None, slice_get}
use Rattle.view_tool.specs.Below.{Flat, Named, Row, Settled, gather, is_device, joined, leaf_text, member_name, option_map_or, together}
use Rattle.adl_meaning.specs.declared.connector.Connector.{Connector}
use Rattle.adl_meaning.specs.declared.connector.Connector.TheVariants.{Mmio, Interrupt}
use Rattle.adl_meaning.specs.declared.flat.FlatConnection.{FlatConnection}
use Rattle.adl_meaning.specs.declared.flat.FlatEnd.{FlatEnd}
use Rattle.adl_meaning.specs.declared.settled.EndSetting.{EndSetting}
use Rattle.cam_base.specs.Hex.{hex_text}

-- whether an end stands at a device
abbrev pub is_at_device : Flat → FlatEnd → Bool
is_at_device flat x = option_map_or (λ l. is_device l.domain) (slice_get flat.leaves x.leaf) false

-- `uart.regs registers`: the interface of a device and its connection
abbrev pub device_text : Named → FlatConnection → FlatEnd → List ℕ
device_text n c x =
    together (leaf_text n.flat x.leaf ∷ codes "." ∷ member_name n x.leaf x.member ∷ codes " " ∷ joined c.path ∷ [])

-- the first address of its memory and how many bytes, or the number of its interrupt
abbrev pub device_row : Connector → List ℕ → EndSetting → List Row
device_row Mmio text s = (text ∷ hex_text s.paddr ∷ decimal s.bytes ∷ [] ∷ []) ∷ []
device_row Interrupt text s = (text ∷ [] ∷ [] ∷ decimal s.irq ∷ []) ∷ []
device_row _ text s = []

-- of an end with its settings
abbrev pub end_rows : Named → FlatConnection → Option EndSetting → FlatEnd → List Row
end_rows n c None x = []
end_rows n c (Some s) x = if is_at_device n.flat x then device_row c.connector (device_text n c x) s else []

-- the settings of the ends of connection k
abbrev pub settings_in : Settled → ℕ → List EndSetting
settings_in settled k = option_map_or (λ s. s.ends) (slice_get settled.connections k) []

abbrev pub connection_rows : Named → List EndSetting → FlatConnection → List Row
connection_rows n settings c = gather (λ e x. end_rows n c (slice_get settings e) x) c.ends

abbrev pub device_rows : Named → Settled → List Row
device_rows n settled = gather (λ k c. connection_rows n (settings_in settled k) c) n.flat.connections
