-- How long the lines of edges and the text of a certificate are, where its labels are below the limit.
use Rattle.policy_text.proofs.Common.{AsyncSend, Authority, Edge, List, [], ap, arith, edge_line, flat_map, has, length, length-append, refl, same_edge}
use Rattle.policy_text.proofs.Common.{rules, same_edge_self, text_of, true, ℕ, ◌*◌, ◌+◌, ◌<◌, ◌||◌, ◌∷◌, ◌≡◌, ◌≤◌}
use Rattle.std.proofs.Math.Nat.{mul-suc}
use Rattle.std.proofs.lemmas.Fmt.{length-decimal-le}
use Rattle.std.specs.Prelude.{decimal}
use Rattle.cam_base.specs.Texts.{◌⊹◌, together}
use Rattle.policy_text.specs.PolicyLines.{cert_text}
use Rattle.policy_text.proofs.Inserting.{or_right}

together_length : (x : List ℕ) (xs : List (List ℕ)) → length (together (x ∷ xs)) ≡ length x + length (together xs)
unfolding together
together_length x xs = length-append x (flat_map (λ y. y) xs)

nothing_together : length (together []) ≡ 0
unfolding together
nothing_together = refl

pub number_short : (n : ℕ) → n < 8192 → length (decimal n) ≤ 4
number_short n l = length-decimal-le 4 n (omega arith) (omega (arith, l)) (omega (arith, l))

word_short : (a : Authority) → length (text_of a) ≤ 9
word_short AsyncSend = omega arith
word_short _ = omega arith

pub edge_short : (e : Edge) → e.from < 8192 → e.to < 8192 → length (edge_line e) ≤ 25
edge_short e f t = search (rules, together_length, number_short, word_short, nothing_together)

lines_short : (cert : List Edge) → ((e : Edge) → has cert e ≡ true → (e.from < 8192) × (e.to < 8192))
    → length (flat_map edge_line cert) ≤ 25 * length cert
lines_short [] small = omega arith
lines_short (e ∷ cert) small =
    let here = small e (ap (λ b. b || has cert e) (same_edge_self e)) in
    let line = edge_short e here.0 here.1 in
    let rest = lines_short cert (λ d h. small d (or_right (same_edge e d) h)) in
    let all = length-append (edge_line e) (flat_map edge_line cert) in
    let more = mul-suc 25 (length cert) in
    omega (arith, line, rest, all, more)

pub cert_short : (cert : List Edge) → ((e : Edge) → has cert e ≡ true → (e.from < 8192) × (e.to < 8192)) → length cert ≤ 262144
    → length (cert_text cert) ≤ 67108864
unfolding cert_text ◌⊹◌
cert_short cert small few = search (rules, lines_short, length-append)
