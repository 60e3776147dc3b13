-- What is written behind what the policy lets a label change: it lets it change both, where it lets it change what is written.
use Rattle.std.proofs.Common.{rules}
use Rattle.flow_model.proofs.LawsCommon.{AsyncSend, Bool, Control, Edge, Handle, IsLet, Lets, List, Mapped, MayFill, MayTell, MayTurn, Node, None, Option, Receive, Sight, ThreadState, World, Write, [], added_to, append-nil, arith, false}
use Rattle.flow_model.proofs.LawsCommon.{filter-append, get_or, inr, label_of, no_node, no_thread, put, read_written, refl, set, true, ℕ, ◌++◌, ◌==◌, ◌∙◌, ◌∷◌, ◌≡◌, ◌⊎◌}

-- what stands at k behind a write at i
behind : {A : Type 0} (May : ℕ → Type 0) (xs : List A) (i k : ℕ) (v d old : A) → (get_or xs k d ≡ old) ⊎ May k → May i
    → (get_or (set xs i v) k d ≡ old) ⊎ May k
behind May xs i k v d old before may = search (rules, read_written)

behind_put : {A : Type 0} (May : ℕ → Type 0) (f : ℕ → A) (i k : ℕ) (v old : A) → (f k ≡ old) ⊎ May k → May i
    → (put f i v k ≡ old) ⊎ May k
behind_put {A} May f i k v old before may = search (rules, put)

behind_added : (May : ℕ → Type 0) (xs old : List Mapped) (m : Mapped) (d : ℕ) → (added_to d xs ≡ added_to d old) ⊎ May d
    → May m.space → (added_to d (xs ++ m ∷ []) ≡ added_to d old) ⊎ May d
behind_added May xs old m d before may = search (rules, added_to, filter-append, append-nil)

module _ (policy : List Edge) (labels : List ℕ) (l : ℕ) (w : World) where
  pub unchanged : IsLet policy labels l w w
  unchanged = search (rules)

  module _ (new : World) (before : IsLet policy labels l w new) where
    pub write_node : (c : ℕ) (n : Node) → MayFill policy l (label_of labels c)
        → IsLet policy labels l w (record new { state = record new.state { nodes = set new.state.nodes c n } })
    write_node c n may = search (rules, behind, label_of, no_node)

    pub write_thread : (t : ℕ) (x : ThreadState) → MayTurn policy l (label_of labels t)
        → IsLet policy labels l w (record new { state = record new.state { threads = set new.state.threads t x } })
    write_thread t x may = record {
      nodes = before.nodes;
      threads = λ k. behind (λ (k : ℕ). MayTurn policy l (label_of labels k)) new.state.threads t k x no_thread _
          (before.threads k) may;
      irqs = before.irqs;
      mapped = before.mapped;
      contents = before.contents;
      pending = before.pending;
      seen = before.seen;
    }

    pub write_irq : (d : ℕ) (bound : Option ℕ) → Lets policy l Handle (label_of labels d)
        → IsLet policy labels l w (record new { state = record new.state { irqs = set new.state.irqs d bound } })
    write_irq d bound may = search (rules, behind, label_of)

    pub write_added : (m : Mapped) → Lets policy l Control (label_of labels m.space)
        → IsLet policy labels l w (record new { state = record new.state { mapped = new.state.mapped ++ m ∷ [] } })
    write_added m may = record {
      nodes = before.nodes;
      threads = before.threads;
      irqs = before.irqs;
      mapped = λ d. behind_added (λ (k : ℕ). Lets policy l Control (label_of labels k)) new.state.mapped w.state.mapped m d
          (before.mapped d) may;
      contents = before.contents;
      pending = before.pending;
      seen = before.seen;
    }

    pub write_content : (f x : ℕ) → Lets policy l Write (label_of labels f)
        → IsLet policy labels l w (record new { contents = put new.contents f x })
    write_content f x may = search (rules, behind_put, label_of)

    pub write_pending : (n : ℕ) (xs : List ℕ) → Lets policy l AsyncSend (label_of labels n)
        ⊎ Lets policy l Receive (label_of labels n) → IsLet policy labels l w (record new { pending = put new.pending n xs })
    write_pending n xs may = search (rules, behind_put, label_of)

    pub write_seen : (t : ℕ) (xs : List Sight) → MayTell policy l (label_of labels t)
        → IsLet policy labels l w (record new { seen = put new.seen t xs })
    write_seen t xs may = search (rules, behind_put, label_of)
