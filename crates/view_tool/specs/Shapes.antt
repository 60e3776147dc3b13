-- The shapes of a source's labels: those of domains, of devices, and of connections, which are all others; and which of them are
-- left out of an overview.
use Rattle.std.specs.Prelude.{ℕ, ◌==◌, Bool, true, false, not, ◌||◌, if◌then◌else◌, List, [], ◌∷◌, map}
use Rattle.view_tool.specs.Below.{Edge, Flat, bytes_eq, domain_labels, flat_map, gather, is_device, joined, list_any, shape_at, where_true}
use Rattle.adl_meaning.specs.declared.flat.Leaf.{Leaf}
use Rattle.view_text.specs.declared.shape.Shape.{Shape}
use Rattle.view_text.specs.declared.shape.Shape.TheVariants.{Domain, Connection, Device, LeftOut}

-- ---- by the names of labels

abbrev pub device_label : Leaf → List (List ℕ)
device_label x = where_true (is_device x.domain) (joined x.path)

abbrev pub device_labels : Flat → List (List ℕ)
device_labels flat = flat_map device_label flat.leaves

abbrev pub is_named : List (List ℕ) → List ℕ → Bool
is_named names name = list_any (λ t. bytes_eq t name) names

abbrev pub shape_of : List (List ℕ) → List (List ℕ) → List ℕ → Shape
shape_of domains devices name = if is_named domains name then Domain else if is_named devices name then Device else Connection

-- of labels in order, by the texts of domains and devices
abbrev pub shapes_by : List (List ℕ) → List (List ℕ) → List (ℕ × List ℕ) → List Shape
shapes_by domains devices labels = map (λ l. shape_of domains devices l.1) labels

abbrev pub shapes_of : Flat → List (ℕ × List ℕ) → List Shape
shapes_of flat labels = shapes_by (domain_labels flat) (device_labels flat) labels

-- ---- an overview leaves out what fewer than two domains touch

abbrev pub is_domain : Shape → Bool
is_domain Domain = true
is_domain _ = false

-- the label of this number, where it is a domain's
abbrev pub domain_at : List Shape → ℕ → List ℕ
domain_at shapes number = if is_domain (shape_at shapes number) then number ∷ [] else []

-- the domain at the other end of an edge of the label
abbrev pub partner : List Shape → ℕ → Edge → List ℕ
partner shapes label e =
    if e.from == label then domain_at shapes e.to else if e.to == label then domain_at shapes e.from else []

abbrev pub partners : List Shape → List Edge → ℕ → List ℕ
partners shapes edges label = gather (λ at e. partner shapes label e) edges

-- whether one of them is another than this
abbrev pub has_other : ℕ → List ℕ → Bool
has_other d ds = list_any (λ x. not (x == d)) ds

-- whether they aren't all one
abbrev pub differ : List ℕ → Bool
differ [] = false
differ (d ∷ ds) = has_other d ds

-- a domain is kept, and what two domains touch
abbrev pub kept_as : List Shape → List Edge → ℕ → Shape → Shape
kept_as shapes edges label s = if is_domain s || differ (partners shapes edges label) then s else LeftOut

abbrev pub overview : List Shape → List Edge → List Shape
overview shapes edges = gather (λ label s. kept_as shapes edges label s ∷ []) shapes
