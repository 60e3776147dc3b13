-- The numbers of labels
use Rattle.arch_policy.proofs.Common.{Bool, Domain, FlatConnection, LabelNumbers, Leaf, List, [], arith, connection_numbers, device_numbers, domain_numbers, false}
use Rattle.arch_policy.proofs.Common.{label_numbers, label_texts, length, length-gather, length_append, rules, true, where_true, ℕ, ◌++◌, ◌+◌, ◌<◌, ◌^◌, ◌∙◌, ◌∷◌, ◌≡◌, ◌≤◌}
use Rattle.adl_meaning.specs.declared.flat.Flat.{Flat}
use Rattle.arch_policy.proofs.Ordering.{order_short}

pub numbers_are : (flat : Flat) (ts : List (List ℕ)) (ds : List Domain) (cs : List FlatConnection) (ls : List Leaf)
    (n : LabelNumbers)
    → ts ≡ label_texts flat → ds ≡ flat.domains → cs ≡ flat.connections → ls ≡ flat.leaves
    → n.domains ≡ domain_numbers ts ds → n.connections ≡ connection_numbers ts cs → n.devices ≡ device_numbers ts ls
    → n ≡ label_numbers flat
numbers_are flat ts ds cs ls n t d c l a b e = search (rules)

where_short : {X : Type 0} (b : Bool) (x : X) → length (where_true b x) ≤ 1
where_short true x = omega arith
where_short false x = omega arith

pub texts_are_few : (flat : Flat) → length (label_texts flat) ≤ length flat.domains + length flat.connections + length flat.leaves
texts_are_few flat = search (rules, order_short, length_append, length-gather, where_short)

pub few_texts : (flat : Flat) → length flat.domains + length flat.connections + length flat.leaves < 2 ^ 32
    → length (label_texts flat) < 2 ^ 32
few_texts flat h = let l = texts_are_few flat in omega (arith, l, h)
