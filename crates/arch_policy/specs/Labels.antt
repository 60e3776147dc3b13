-- Labels are numbered from 0 in the byte order of their texts. So the number of a label is how many labels come before it,
-- and whatever keeps the texts apart keeps the numbers apart.
use Rattle.std.specs.Prelude.{◌≡◌, ℕ, Bool, List, [], ◌∷◌, Option, map, position}
use Rattle.arch_policy.specs.Below.{Domain, Flat, FlatConnection, Leaf, count_by, gather, joined}
use Rattle.std.specs.Cmp.Lexicographic.{slice_cmp}
use Rattle.std.specs.Ordering.{is_lt, nat_cmp}
use Rattle.std.specs.declared.cmp.Ordering.{Ordering}
use Rattle.std.specs.declared.cmp.Ordering.TheVariants.{Less, Equal, Greater}
use Rattle.std.specs.Str.{bytes_eq}
use Rattle.arch_policy.specs.declared.numbers.LabelNumbers.{LabelNumbers}
use Rattle.arch_policy.specs.Owners.{texts}

abbrev pub put_before : Ordering → List ℕ → List ℕ → List (List ℕ) → List (List ℕ) → List (List ℕ)
put_before Less t s ss more = t ∷ s ∷ ss
put_before Equal t s ss more = s ∷ ss
put_before Greater t s ss more = s ∷ more

-- a text put among texts in byte order, unless it stands there
abbrev pub put_in : List ℕ → List (List ℕ) → List (List ℕ)
put_in t [] = t ∷ []
put_in t (s ∷ ss) = put_before (slice_cmp nat_cmp t s) t s ss (put_in t ss)

-- in byte order, each once
abbrev pub in_order : List (List ℕ) → List (List ℕ)
in_order [] = []
in_order (t ∷ ts) = put_in t (in_order ts)

-- texts that were put in order
abbrev pub IsOrdered : List (List ℕ) → Type 0
IsOrdered ts = (all : List (List ℕ)) × (ts ≡ in_order all)

-- the texts, without what stands beside them
abbrev pub firsts : List (List ℕ × ℕ) → List (List ℕ)
firsts = map (λ p. p.0)

-- the texts of all labels, in order
abbrev pub label_texts : Flat → List (List ℕ)
label_texts flat = in_order (texts flat)

-- the number of the label of this text
abbrev pub number_of_text : Flat → List ℕ → Option ℕ
number_of_text flat text = position (λ t. bytes_eq t text) (label_texts flat)

-- the labels with their numbers
abbrev pub label_lines : Flat → List (ℕ × List ℕ)
label_lines flat = gather (λ n t. (n, t) ∷ []) (label_texts flat)

abbrev pub comes_before : List ℕ → List ℕ → Bool
comes_before s t = is_lt (slice_cmp nat_cmp s t)

-- how many of the texts come before this one
abbrev pub rank : List (List ℕ) → List ℕ → ℕ
rank ts t = count_by (λ s. comes_before s t) ts

abbrev pub domain_numbers : List (List ℕ) → List Domain → List ℕ
domain_numbers ts domains = gather (λ d x. rank ts (joined x.path) ∷ []) domains

abbrev pub connection_numbers : List (List ℕ) → List FlatConnection → List ℕ
connection_numbers ts connections = gather (λ k x. rank ts (joined x.path) ∷ []) connections

abbrev pub device_numbers : List (List ℕ) → List Leaf → List ℕ
device_numbers ts leaves = gather (λ l x. rank ts (joined x.path) ∷ []) leaves

-- the numbers of the labels of domains, connections and devices, each by its place in the flat system; at a connection without
-- a label, and at a leaf of a domain, stands the number that its path would have
abbrev pub label_numbers : Flat → LabelNumbers
label_numbers flat = record {
  domains = domain_numbers (label_texts flat) flat.domains;
  connections = connection_numbers (label_texts flat) flat.connections;
  devices = device_numbers (label_texts flat) flat.leaves;
}
