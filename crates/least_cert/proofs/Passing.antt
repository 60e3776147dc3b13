-- Which edges pass on, and what is made of the ends of two edges.
use Rattle.least_cert.proofs.Common.{Authority, Bool, Edge, None, Reply, Some, between_labels, edge, eq-eqb, false, from_other, if◌then◌else◌, ne_eqb, number_of, passed_to, refl, rules, same_itself, same_number, to_other, true, ℕ, ◌==◌, ◌≡◌, ◌≢◌}

module _ {A : Type 0} where
  chosen_none : (b : Bool) (x y : A) → (if b then None else Some x) ≡ Some y → (b ≡ false) × (x ≡ y)
  chosen_none true x y h = absurd cc
  chosen_none false x y h = (refl, cc)

-- edges that lie between different labels
pub link_is : (x e : Edge) → between_labels x ≡ Some e → (x ≡ e) × (e.from ≢ e.to)
link_is x e h = search (rules, chosen_none, eq-eqb)

pub link_of : (e : Edge) → e.from ≢ e.to → between_labels e ≡ Some e
link_of e other = rw (ne_eqb e.from e.to other) refl

pub passed_is : (r : ℕ) (x e : Edge) → passed_to r x ≡ Some e → (x.authority ≢ Reply) × (edge r x.authority x.to ≡ e)
passed_is r x e h = search (rules, chosen_none)

pub passes_on : (r : ℕ) (x : Edge) → x.authority ≢ Reply → passed_to r x ≡ Some (edge r x.authority x.to)
passes_on r x other = rw (ne_eqb (number_of x.authority) 9 (λ e. other (same_number x.authority Reply e))) refl

pub from_other_is : (a : Authority) (l : ℕ) (p e : Edge) → from_other a l p ≡ Some e → (p.to ≢ l) × (edge p.to a l ≡ e)
from_other_is a l p e h = search (rules, chosen_none, same_itself)

pub from_other_made : (a : Authority) (l : ℕ) (p : Edge) → p.to ≢ l → from_other a l p ≡ Some (edge p.to a l)
from_other_made a l p other = let no_it : p.to == l ≡ false = ne_eqb p.to l other in rw no_it refl

pub to_other_is : (a : Authority) (l : ℕ) (p e : Edge) → to_other a l p ≡ Some e → (p.to ≢ l) × (edge l a p.to ≡ e)
to_other_is a l p e h = search (rules, chosen_none, same_itself)

pub to_other_made : (a : Authority) (l : ℕ) (p : Edge) → p.to ≢ l → to_other a l p ≡ Some (edge l a p.to)
to_other_made a l p other = let no_it : p.to == l ≡ false = ne_eqb p.to l other in rw no_it refl
