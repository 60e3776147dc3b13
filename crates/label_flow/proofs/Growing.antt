-- One line more.
use Rattle.std.proofs.Common.{rules}
use Rattle.label_flow.proofs.Common.{AreLines, Edge, IsLine, LabelNames, List, [], ap, append-nil, append_assoc, get_or, length, refl, subst, sym, take, take_more, ℕ, ◌++◌, ◌+◌, ◌<◌, ◌∙◌, ◌∷◌, ◌≡◌}

pub one_more : (edges : List Edge) (labels ms : LabelNames) (m : ℕ × List ℕ) (text line : List ℕ) → AreLines edges labels ms text
    → IsLine edges labels m line → AreLines edges labels (ms ++ m ∷ []) (text ++ line)
one_more edges labels [] m text line none is = (line, [], is, refl, ap (λ (t : List ℕ). t ++ line) none ∙ sym (append-nil line))
one_more edges labels (x ∷ ms) m text line (first, rest, one, others, e) is = (
  first,
  rest ++ line,
  one,
  one_more edges labels ms m rest line others is,
  ap (λ (t : List ℕ). t ++ line) e
      ∙ append_assoc first rest line,
)

-- the next one of all labels
pub line_more : (edges : List Edge) (all labels : LabelNames) (i : ℕ) (m : ℕ × List ℕ) (text new line : List ℕ) → labels ≡ all
    → i < length labels → m ≡ get_or labels i m
    → AreLines edges all (take i all) text → IsLine edges all m line → new ≡ text ++ line
    → AreLines edges all (take (i + 1) all) new
line_more edges all labels i m text new line same within at are is more =
    let inside : i < length all = subst (λ (ls : LabelNames). i < length ls) same within in
    let here : m ≡ get_or all i m = subst (λ (ls : LabelNames). m ≡ get_or ls i m) same at in
    let next : take (i + 1) all ≡ take i all ++ m ∷ [] = search (rules, take_more) in
    search (rules, one_more)
