-- The six connectors, and their words.
use Rattle.std.specs.Prelude.{ℕ, List, [], ◌∷◌, codes, Option}
use Rattle.adl_meaning.specs.Below.{bytes_eq, find}
use Rattle.adl_meaning.specs.declared.connector.Connector.{Connector}
use Rattle.adl_meaning.specs.declared.connector.Connector.TheVariants.{Rpc, Notification, SharedMemory, Mmio, Interrupt, Direct}

abbrev pub text_of : Connector → List ℕ
text_of Rpc = codes "seL4RPCCall"
text_of Notification = codes "seL4Notification"
text_of SharedMemory = codes "seL4SharedData"
text_of Mmio = codes "seL4HardwareMMIO"
text_of Interrupt = codes "seL4HardwareInterrupt"
text_of Direct = codes "seL4DirectCall"

abbrev pub all_connectors : List Connector
all_connectors = Rpc ∷ Notification ∷ SharedMemory ∷ Mmio ∷ Interrupt ∷ Direct ∷ []

-- the connector that has the word
abbrev pub connector_of : List ℕ → Option Connector
connector_of word = find (λ k. bytes_eq word (text_of k)) all_connectors
