-- The boot edges between different labels, put together from their pieces.
use Rattle.reach_laws.proofs.Common.{Auth, Authority, DirectReason, List, Spec, Tables, arith, boot, edge, inl, inr, none_saved, nothing_pending, of_buffer, of_irq, of_mapped, of_reply, of_root, of_saved, of_space, of_table, ℕ, ◌↔◌, ◌≢◌}
use Rattle.reach_laws.specs.Pieces.{HasPieces}
use Rattle.reach_laws.proofs.WindowEdges.{direct_table, table_direct}

module _ (t : Tables) (spec : Spec) (labels : List ℕ) (p : HasPieces t spec labels) where
  edge_direct : (l : ℕ) (a : Authority) (m : ℕ) → l ≢ m → Auth spec labels (boot spec) l a m → DirectReason t (edge l a m)
  edge_direct l a m differ (inl h) = p.joints l a m differ (inl h)
  edge_direct l a m differ (inr (of_irq h)) = p.joints l a m differ (inr h)
  edge_direct l a m differ (inr (of_table h)) = table_direct t spec labels p.windows l a m differ h
  edge_direct l a m differ (inr (of_root h)) = absurd (differ (p.threads l a m (inl h)))
  edge_direct l a m differ (inr (of_space h)) = absurd (differ (p.threads l a m (inr (inl h))))
  edge_direct l a m differ (inr (of_buffer h)) = absurd (differ (p.threads l a m (inr (inr h))))
  edge_direct l a m differ (inr (of_reply (u, reply, there, is, from, to))) = absurd (let none = nothing_pending spec u in cc)
  edge_direct l a m differ (inr (of_saved (c, i, reply, there, is, from, to))) = absurd (none_saved spec c i reply there)
  edge_direct l a m differ (inr (of_mapped (x, there, c, from, to))) = absurd (let w = there.1 in omega arith)

  direct_edge : (l : ℕ) (a : Authority) (m : ℕ) → l ≢ m → DirectReason t (edge l a m) → Auth spec labels (boot spec) l a m
  direct_edge l a m differ d = elim (p.given l a m differ d) [
    | inl access ↦ inr (of_table (direct_table t spec labels p.windows l m a access d))
    | inr (inl held) ↦ inl held
    | inr (inr irq) ↦ inr (of_irq irq)
  ]

pub pieces_direct : (t : Tables) (spec : Spec) (labels : List ℕ) → HasPieces t spec labels → (l : ℕ) (a : Authority) (m : ℕ)
    → l ≢ m → Auth spec labels (boot spec) l a m ↔ DirectReason t (edge l a m)
pieces_direct t spec labels p l a m differ =
    (λ h. edge_direct t spec labels p l a m differ h, λ d. direct_edge t spec labels p l a m differ d)
