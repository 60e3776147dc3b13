-- Edges: when two are one, and the laws of their order.
use Rattle.cap_model.proofs.Common.{AsyncSend, AtMost, Authority, Before, Call, Control, Edge, Grant, GrantBack, Handle, List, Read, Receive, Reply, Reset, SyncSend, Write, [], and_parts, ap, arith, cases_lt, eqb-true, get_or, inr, number_of}
use Rattle.cap_model.proofs.Common.{refl, rules, same_edge, same_itself, true, ◌&&◌, ◌==◌, ◌∷◌, ◌≡◌, ◌⊎◌}

-- ---- equality

authorities : List Authority
authorities = Receive ∷ SyncSend ∷ AsyncSend ∷ Reset ∷ Grant ∷ Read ∷ Write ∷ Control ∷ Call ∷ Reply ∷ GrantBack ∷ Handle ∷ []

back : (a : Authority) → get_or authorities (number_of a) Receive ≡ a
unfolding authorities
back Receive = refl
back SyncSend = refl
back AsyncSend = refl
back Reset = refl
back Grant = refl
back Read = refl
back Write = refl
back Control = refl
back Call = refl
back Reply = refl
back GrantBack = refl
back Handle = refl

pub same_number : (a b : Authority) → number_of a ≡ number_of b → a ≡ b
same_number a b e = let f : get_or authorities (number_of a) Receive ≡ get_or authorities (number_of b) Receive =
    ap (λ n. get_or authorities n Receive) e in let g = back a in let h = back b in cc

pub edges_same : (d e : Edge) → d.from ≡ e.from → d.authority ≡ e.authority → d.to ≡ e.to → d ≡ e
edges_same d e f a t = search (rules)

pub same_edge_true : (d e : Edge) → same_edge d e ≡ true → d ≡ e
same_edge_true d e h = search (rules, and_parts, edges_same, eqb-true, same_number)

pub same_edge_self : (e : Edge) → same_edge e e ≡ true
same_edge_self e = rw (same_itself e.from, same_itself (number_of e.authority), same_itself e.to) refl

-- ---- order

pub at_most_self : (e : Edge) → AtMost e e
at_most_self e = record { by_from = omega arith; by_authority = λ f. omega arith; by_to = λ f g. omega arith }

pub before_at_most : (d e : Edge) → Before d e → AtMost d e
before_at_most d e b = search (rules)

pub at_most_trans : (c d e : Edge) → AtMost c d → AtMost d e → AtMost c e
at_most_trans c d e p q = record { by_from = omega arith; by_authority = λ f. omega arith; by_to = λ f g. omega arith }

pub at_most_before : (c d e : Edge) → AtMost c d → Before d e → Before c e
at_most_before c d e p q = record { by_from = omega arith; by_authority = λ f. omega arith; by_to = λ f g. omega arith }

pub not_before_self : (e : Edge) → Before e e → ⊥
not_before_self e b = let l = b.by_to refl refl in omega arith

pub before_chain : (c d e : Edge) → Before c d → Before d e → Before c e
before_chain c d e p q = at_most_before c d e (before_at_most c d p) q

pub not_before_both : (d e : Edge) → Before d e → Before e d → ⊥
not_before_both d e p q = not_before_self d (at_most_before d e d (before_at_most d e p) q)

pub not_before_at_most : (d e : Edge) → Before d e → AtMost e d → ⊥
not_before_at_most d e p q = not_before_self e (at_most_before e d e q p)

pub at_most_both : (d e : Edge) → AtMost d e → AtMost e d → d ≡ e
at_most_both d e p q = grind (arith, edges_same, same_number)

pub before_or_not : (d e : Edge) → Before d e ⊎ AtMost e d
before_or_not d e = search (rules, cases_lt)

pub same_edge-sym : (d e : Edge) → same_edge d e ≡ same_edge e d
same_edge-sym d e = search (rules, same_edge_true, same_edge_self)
