-- Labels of one class: neither lacks an edge other than Reply that the other has.
use Rattle.cert_check.proofs.Common.{BreaksPair, Edge, FindsLeast, List, Missing, None, OutAlike, edge, edges_same, false, has, inr, refl, rules, true, ℕ, ◌∙◌, ◌≡◌}

none_missing : (cert : List Edge) (x y : ℕ) → OutAlike cert x y → (d : Edge) → Missing cert x y d → ⊥
none_missing cert x y alike d m = search (rules, edges_same)

pub none_breaks : (cert : List Edge) (e : Edge) (x y : ℕ) → OutAlike cert x y → FindsLeast (BreaksPair cert e x y) None
none_breaks cert e x y alike v breaks = search (rules, none_missing)
