-- Lists of pairs by their order: two that compare as equal are one list.
use Rattle.cap_model.proofs.Common.{Authority, Equal, Greater, IsTotalOrder, Less, List, Ordering, [], ap, edge_to, is_eq, is_equal, list_cmp, on_total, ordering_reverse, ordering_then, refl, total-law, true, ℕ, ◌∙◌, ◌∷◌, ◌≡◌}
use Rattle.std.specs.Cmp.Lexicographic.{lists_total}
use Rattle.cap_model.specs.contracts.edge.EdgeOrd.TheImpl.{ghosts as ordered}
use Rattle.cap_model.proofs.EdgeCompare.{cmp-same}
use Rattle.cap_model.proofs.RowEdges.{pair_is}

both_equal : (a b : Ordering) → ordering_then a b ≡ Equal → (a ≡ Equal) × (b ≡ Equal)
both_equal Less b e = cc
both_equal Equal b e = (refl, e)
both_equal Greater b e = cc

pub one_list : (ps qs : List (Authority × ℕ)) → list_cmp ps qs ≡ Equal → ps ≡ qs
one_list [] [] e = refl
one_list [] (q ∷ qs) e = cc
one_list (p ∷ ps) [] e = cc
one_list (p ∷ ps) (q ∷ qs) e =
    let both = both_equal (ordered.cmp (edge_to 0 p) (edge_to 0 q)) (list_cmp ps qs) e in
    let same : p ≡ q = pair_is p 0 0 q.0 q.1 (cmp-same (edge_to 0 p) (edge_to 0 q) both.0) in
    ap (λ x. x ∷ ps) same ∙ ap (λ xs. q ∷ xs) (one_list ps qs both.1)

pub itself : (a : Ordering) → a ≡ ordering_reverse a → a ≡ Equal
itself Less e = cc
itself Equal e = refl
itself Greater e = cc

pair_total : IsTotalOrder (λ (x y : Authority × ℕ). ordered.cmp (edge_to 0 x) (edge_to 0 y))
pair_total = on_total (edge_to 0) total-law

pub list_itself : (ps : List (Authority × ℕ)) → list_cmp ps ps ≡ Equal
list_itself ps = itself (list_cmp ps ps) ((lists_total pair_total).antisymm ps ps)

pub is_eq-same : (ps qs : List (Authority × ℕ)) → is_eq (list_cmp ps qs) ≡ true → ps ≡ qs
is_eq-same ps qs e = one_list ps qs (is_equal (list_cmp ps qs) e)
