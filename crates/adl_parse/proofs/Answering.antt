-- Parsing a file has one answer.
use Rattle.adl_parse.proofs.Common.{Err, Fault, File, IsFileIn, IsSettled, List, Ok, Refused, Result, Token, Why, ap, fault_of, file_decides, file_goes_on, file_line, file_stops_once, limit, nested_is, nested_line, opens, see, sym, token_code, ℕ}
use Rattle.adl_parse.proofs.Common.{◌∙◌, ◌≡◌}
use Rattle.cam_base.specs.declared.error.Refused.TheVariants as refusals
use Rattle.adl_ast.proofs.Trees.{one_tree}

pub one_answer : (bytes : List ℕ) (tokens : List Token) (a b : Result File (Refused Fault)) → IsSettled a → IsSettled b
    → IsFileIn bytes tokens a → IsFileIn bytes tokens b → a ≡ b
one_answer bytes tokens (Ok x) (Ok y) s t p q =
    ap Ok (one_tree token_code nested_line opens nested_is file_line file_decides x y (see bytes tokens) (limit, p) (limit, q))
one_answer bytes tokens (Ok x) (Err (refusals.Fault g)) s t p q =
    absurd (file_goes_on token_code nested_line file_line limit (see bytes tokens) x q.0 q.1 p q.3)
one_answer bytes tokens (Err (refusals.Fault f)) (Ok y) s t p q =
    absurd (file_goes_on token_code nested_line file_line limit (see bytes tokens) y p.0 p.1 q p.3)
one_answer bytes tokens (Err (refusals.Fault f)) (Err (refusals.Fault g)) s t p q =
    let same = file_stops_once token_code nested_line file_line limit (see bytes tokens) p.0 q.0 p.1 q.1 p.3 q.3 in
    let fault : f ≡ g = p.2 ∙ ap (λ (w : Why). fault_of bytes tokens w p.1) same.0 ∙ ap (λ (n : ℕ). fault_of bytes tokens q.0 n)
    same.1 ∙ sym q.2 in
    ap (λ (e : Fault). Err (refusals.Fault e)) fault
one_answer bytes tokens (Err refusals.NoMemory) b s t p q = absurd s
one_answer bytes tokens (Ok x) (Err refusals.NoMemory) s t p q = absurd t
one_answer bytes tokens (Err (refusals.Fault f)) (Err refusals.NoMemory) s t p q = absurd t
