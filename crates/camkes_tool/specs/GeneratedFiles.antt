-- The source that is generated for a number n: n clients and one server, which they call and with which they share memory, and
-- the section tables of both. It has one client a line, and one end a client in each of its two connections.
use Rattle.std.specs.Prelude.{ℕ, List, [], ◌∷◌, ◌++◌, codes, decimal}
use Rattle.std.specs.FinMap as files
use Rattle.camkes_tool.specs.Below.{Contents, flat_map, range_with_len, together}

-- what stands in front of the clients
abbrev pub header : List ℕ
header =
    codes "procedure P { void f(); }\n"
    ++ codes "component Client { control; uses P p; dataport Buf d; }\n"
    ++ codes "component Server { control; provides P p; dataport Buf d; }\n"
    ++ codes "assembly { composition {\n"

-- `component Client c7;`
abbrev pub client_line : ℕ → List ℕ
client_line i = codes "component Client c" ++ decimal i ++ codes ";\n"

-- `from c7.p, `
abbrev pub from_end : List ℕ → ℕ → List ℕ
from_end port i = codes "from c" ++ decimal i ++ port

-- the numbers of the clients
abbrev pub clients : ℕ → List ℕ
clients n = range_with_len 0 n

abbrev pub root_text : ℕ → List ℕ
root_text n = together (
    header ∷ flat_map client_line (clients n) ∷ codes "component Server s;\nconnection seL4RPCCall k("
    ∷ flat_map (from_end (codes ".p, ")) (clients n) ∷ codes "to s.p);\nconnection seL4SharedData m("
    ∷ flat_map (from_end (codes ".d, ")) (clients n) ∷ codes "to s.d);\n} }\n" ∷ [])

abbrev pub root_name : List ℕ
root_name = codes "gen.camkes"

-- one section, of one page
abbrev pub program_text : List ℕ
program_text = codes "entry 0x10000\ntext 0x10000 0x1000 RX 0x1000\n"

-- the three files
abbrev pub generated : ℕ → Contents
generated n =
    files.insert (
    files.insert (files.insert files.empty root_name (root_text n)) (codes "Client.sections") program_text
    ) (codes "Server.sections") program_text
