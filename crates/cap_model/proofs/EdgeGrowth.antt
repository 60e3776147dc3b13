-- Lists of edges that grow in several steps.
use Rattle.cap_model.proofs.Common.{Adds, Edge, List, inl, inr, rules, ◌⊎◌}

module _ (P Q : Edge → Type 0) where
  pub adds_same : ((e : Edge) → P e → Q e) → ((e : Edge) → Q e → P e) → (a b : List Edge) → Adds P a b → Adds Q a b
  adds_same to from a b g = search (rules)

  pub adds_then : (a b c : List Edge) → Adds P a b → Adds Q b c → Adds (λ e. P e ⊎ Q e) a c
  adds_then a b c g h = search (rules)

pub adds_none : (P : Edge → Type 0) → ((e : Edge) → P e → ⊥) → (a : List Edge) → Adds P a a
adds_none P none a = record { kept = λ e h. h; added = λ e p. absurd (none e p); only = λ e h. inl h }
