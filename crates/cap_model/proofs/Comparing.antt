-- What the comparisons of a set of edges say of the edges that it has.
use Rattle.cap_model.proofs.Common.{Bool, Edge, Equal, List, [], ap, cond, false, has, if◌then◌else◌, is_eq, is_equal, length, list_any, not, one_truth, refl, rules, same_edge, subst, total-law, true, ◌+◌, ◌||◌, ◌∙◌, ◌∷◌, ◌≡◌}
use Rattle.cam_base.proofs.Options.{or_cond}
use Rattle.cap_model.specs.contracts.edge.EdgeOrd.TheImpl.{ghosts as ordered}
use Rattle.cap_model.proofs.EdgeCompare.{cmp-same}
use Rattle.cap_model.proofs.EdgeOrder.{same_edge_true, same_edge_self, same_edge-sym}
use Rattle.cap_model.proofs.PairLists.{itself}

equal_self : (e : Edge) → ordered.cmp e e ≡ Equal
equal_self e = itself (ordered.cmp e e) (total-law.antisymm e e)

pub compared_same : (d e : Edge) → is_eq (ordered.cmp d e) ≡ same_edge d e
compared_same d e = one_truth (is_eq (ordered.cmp d e)) (same_edge d e)
    (λ h. let same = cmp-same d e (is_equal (ordered.cmp d e) h) in
    subst (λ (x : Edge). same_edge d x ≡ true) same (same_edge_self d))
    (λ h. let same = same_edge_true d e h in subst (λ (x : Edge). is_eq (ordered.cmp d x) ≡ true) same (ap is_eq (equal_self d)))

pub contains_same : (edges : List Edge) (e : Edge) → list_any (λ (d : Edge). is_eq (ordered.cmp e d)) edges ≡ has edges e
contains_same [] e = refl
contains_same (d ∷ edges) e = rw (compared_same e d, same_edge-sym e d, contains_same edges e) refl

-- the clause of `insert`, in words of edges
pub inserted_same : (old new : List Edge) (edge : Edge)
    → ((e : Edge) → list_any (λ (d : Edge). is_eq (ordered.cmp e d)) new ≡ cond (is_eq (ordered.cmp edge e)) true
    (list_any (λ (d : Edge). is_eq (ordered.cmp e d)) old))
    → (e : Edge) → has new e ≡ (has old e || same_edge edge e)
inserted_same old new edge h e = search (rules, contains_same, or_cond, compared_same)

-- and of its length
pub inserted_length : (old new : List Edge) (edge : Edge) (added : Bool) → has old edge ≡ false
    → added ≡ not (list_any (λ (d : Edge). is_eq (ordered.cmp edge d)) old)
    → length new ≡ length old + (if added then 1 else 0) → length new ≡ length old + 1
inserted_length old new edge added none is more = search (rules, contains_same)
