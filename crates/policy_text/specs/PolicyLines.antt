-- The one text that a policy, and a certificate, is written as. Numbers are decimal, an authority is its word, and edges stand
-- in their order.
use Rattle.std.specs.Prelude.{ℕ, List, [], ◌∷◌, codes, decimal}
use Rattle.policy_text.specs.Below.{Edge, Policy, flat_map, text_of, together}
use Rattle.cam_base.specs.Texts.{◌⊹◌}

-- `label 0 client`
abbrev pub label_line : ℕ × List ℕ → List ℕ
label_line l = together (codes "label " ∷ decimal l.0 ∷ codes " " ∷ l.1 ∷ codes "\n" ∷ [])

-- `object cnode_0 2`
abbrev pub object_line : List ℕ × ℕ → List ℕ
object_line o = together (codes "object " ∷ o.0 ∷ codes " " ∷ decimal o.1 ∷ codes "\n" ∷ [])

-- `edge 0 SyncSend 1`
abbrev pub edge_line : Edge → List ℕ
edge_line e = together (codes "edge " ∷ decimal e.from ∷ codes " " ∷ text_of e.authority ∷ codes " " ∷ decimal e.to
    ∷ codes "\n" ∷ [])

abbrev pub policy_header : List ℕ
policy_header = codes "policy 1"

abbrev pub cert_header : List ℕ
cert_header = codes "certificate 1"

-- the labels, the objects and the edges of a policy, each in their order
unfoldable pub policy_text : Policy → List ℕ
policy_text p = codes "policy 1\n" ⊹ flat_map label_line p.labels ⊹ flat_map object_line p.objects ⊹ flat_map edge_line p.edges

unfoldable pub cert_text : List Edge → List ℕ
cert_text edges = codes "certificate 1\n" ⊹ flat_map edge_line edges
