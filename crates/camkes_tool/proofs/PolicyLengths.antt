-- How long the text of a policy is.
use Rattle.camkes_tool.proofs.BackCommon.{Edge, IsIn, List, Policy, [], arith, codes, decimal, edge_line, edge_short, flat_map, inl, inr, label_line, length, length-append, mul-suc, number_short, object_line, refl, ℕ, ◌*◌, ◌+◌, ◌<◌, ◌∷◌, ◌≤◌}
use Rattle.cam_base.specs.Texts.{◌⊹◌}
use Rattle.policy_text.specs.PolicyLines.{policy_text}
use Rattle.spec_laws.proofs.Lengths.{joined}
use Rattle.cam_base.proofs.ShortTexts.{all_short}

abbrev pub IsLabelShort : ℕ × List ℕ → Type 0
IsLabelShort l = (l.0 < 8192) × (length l.1 ≤ 2047)

abbrev pub IsObjectShort : List ℕ × ℕ → Type 0
IsObjectShort o = (length o.0 ≤ 127) × (o.1 < 8192)

abbrev pub IsEdgeShort : Edge → Type 0
IsEdgeShort e = (e.from < 8192) × (e.to < 8192)

lines_short : {X : Type 0} (f : X → List ℕ) (n : ℕ) (xs : List X) → ((x : X) → IsIn x xs → length (f x) ≤ n)
    → length (flat_map f xs) ≤ n * length xs
lines_short f n [] h = omega arith
lines_short f n (x ∷ xs) h =
    let a = length-append (f x) (flat_map f xs) in
    let b = lines_short f n xs (λ y i. h y (inr i)) in
    let c = h x (inl refl) in
    let d = mul-suc n (length xs) in
    omega (arith, a, b, c, d)

label_short : (l : ℕ × List ℕ) → IsLabelShort l → length (label_line l) ≤ 2059
label_short l h =
    let s = all_short (6 ∷ 4 ∷ 1 ∷ 2047 ∷ 1 ∷ []) (codes "label " ∷ decimal l.0 ∷ codes " " ∷ l.1 ∷ codes "\n" ∷ [])
    (omega arith, (number_short l.0 h.0, (omega arith, (h.1, (omega arith, tt))))) in
    omega (arith, s)

object_short : (o : List ℕ × ℕ) → IsObjectShort o → length (object_line o) ≤ 140
object_short o h =
    let s = all_short (7 ∷ 127 ∷ 1 ∷ 4 ∷ 1 ∷ []) (codes "object " ∷ o.0 ∷ codes " " ∷ decimal o.1 ∷ codes "\n" ∷ [])
    (omega arith, (h.0, (omega arith, (number_short o.1 h.1, (omega arith, tt))))) in
    omega (arith, s)

module _ (p : Policy) (labels : (l : ℕ × List ℕ) → IsIn l p.labels → IsLabelShort l) (objects : (o : List ℕ × ℕ)
    → IsIn o p.objects → IsObjectShort o)
    (edges : (e : Edge) → IsIn e p.edges → IsEdgeShort e) (few_labels : length p.labels ≤ 8192)
    (few_objects : length p.objects ≤ 262144) (few_edges : length p.edges ≤ 262144) where
  pub policy_short : length (policy_text p) ≤ 67108864
  unfolding policy_text
  policy_short =
      let a = lines_short label_line 2059 p.labels (λ l i. label_short l (labels l i)) in
      let b = lines_short object_line 140 p.objects (λ o i. object_short o (objects o i)) in
      let c = lines_short edge_line 25 p.edges (λ e i. edge_short e (edges e i).0 (edges e i).1) in
      let one = joined (codes "policy 1\n") (flat_map label_line p.labels) 9 (2059 * length p.labels) (omega arith) a in
      let two = joined (codes "policy 1\n" ⊹ flat_map label_line p.labels) (flat_map object_line p.objects)
      (9 + 2059 * length p.labels) (140 * length p.objects) one b in
      let all = joined (codes "policy 1\n" ⊹ flat_map label_line p.labels ⊹ flat_map object_line p.objects)
      (flat_map edge_line p.edges) (9 + 2059 * length p.labels + 140 * length p.objects) (25 * length p.edges) two c in
      omega (arith, all, few_labels, few_objects, few_edges)
