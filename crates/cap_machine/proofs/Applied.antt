-- What `apply` owes beside the change: room for later numbers, and no want of memory where none is taken.
use Rattle.cap_machine.proofs.Common.{Capability, Change, Content, List, Mapped, NextsFit, Node, Option, SavedReply, State, ThreadState, Turned, [], ap, arith, changed, get_or, grown, grown_at, inl, inr, no_node, parts, refl, set}
use Rattle.cap_machine.proofs.Common.{rules, suc, without, without_at, zero, ℕ, ◌+◌, ◌∷◌, ◌≡◌, ◌≤◌, ◌⊎◌}
use Rattle.cap_machine.specs.declared.change.Change.TheVariants.{Add, ReplyAdd, Drop, Save, Release, ReleaseAdd}

-- what is read after a write is what was there, or, at the place itself, what was written
pub read_written : {A : Type 0} (xs : List A) (i k : ℕ) (v d : A) → (get_or (set xs i v) k d ≡ get_or xs k d)
    ⊎ ((k ≡ i) × (get_or (set xs i v) k d ≡ v))
read_written [] i k v d = inl refl
read_written (x ∷ xs) zero zero v d = inr (refl, refl)
read_written (x ∷ xs) (suc i) (suc k) v d =
    elim (read_written xs i k v d) [ inl e ↦ inl e | inr e ↦ inr (ap (λ n. suc n) e.0, e.1) ]
read_written (x ∷ xs) _ _ v d = inl refl

written : (nodes : List Node) (n c : ℕ) (node : Node) → NextsFit nodes n → node.next ≤ 65536 + n → NextsFit (set nodes c node) n
written nodes n c node fit small = search (rules, read_written, set)

later : (nodes : List Node) (n : ℕ) → NextsFit nodes n → NextsFit nodes (n + 1)
later nodes n fit = record { fits = λ k. let f : (get_or nodes k no_node).next ≤ 65536 + n = fit.fits k in omega arith }

grows : (nodes : List Node) (n c : ℕ) (content : Content) → NextsFit nodes n → NextsFit (grown_at nodes c content) (n + 1)
grows nodes n c content fit = written nodes (n + 1) c (grown (get_or nodes c no_node) content) (later nodes n fit)
    (let f = fit.fits c in omega arith)

drops : (nodes : List Node) (n c i : ℕ) → NextsFit nodes n → NextsFit (without_at nodes c i) n
drops nodes n c i fit = written nodes n c (without (get_or nodes c no_node) i) fit (fit.fits c)

pub nexts_fit : (s : State) (n : ℕ) (change : Change) → NextsFit s.nodes n → NextsFit (changed s change).nodes (n + 1)
nexts_fit s n (Add node x) fit = grows s.nodes n node (Capability x) fit
nexts_fit s n (ReplyAdd t caller node x) fit = grows s.nodes n node (Capability x) fit
nexts_fit s n (Drop node i) fit = drops s.nodes (n + 1) node i (later s.nodes n fit)
nexts_fit s n (Save t node pending) fit = grows s.nodes n node (SavedReply pending) fit
nexts_fit s n (Release node i caller) fit = drops s.nodes (n + 1) node i (later s.nodes n fit)
nexts_fit s n (ReleaseAdd node i caller to x) fit = drops (grown_at s.nodes to (Capability x)) (n + 1) node i
    (grows s.nodes n to (Capability x) fit)
nexts_fit s n _ fit = later s.nodes n fit

-- the state that a change was made to is the changed state
pub turned : (s : State) (y : Change) (nodes : List Node) (threads : List ThreadState) (irqs : List (Option ℕ))
    (mapped : List Mapped) → Turned y s (parts nodes threads irqs mapped) → parts nodes threads irqs mapped ≡ changed s y
turned s y nodes threads irqs mapped t = rw (t.in_nodes, t.in_threads, t.in_irqs, t.in_mapped) refl
