-- A state that lies in the Spread has no edges but those of an audit.
use Rattle.std.proofs.Common.{rules}
use Rattle.cap_audit.proofs.Common.{AddedBy, Audited, Auth, Authority, Capability, Holds, HoldsNoThread, IsWithin, List, Owed, Reaches, Saved, SavedReply, Spec, State, Structural, at_boot, inl, inr}
use Rattle.cap_audit.proofs.Common.{kind_is, lessened_confers, lessened_kind, of_bind, of_buffer, of_call, of_irq, of_mapped, of_reply, of_root, of_save, of_saved, of_space, of_table, sym, true, ℕ}
use Rattle.cap_audit.proofs.Common.{◌∙◌, ◌≡◌}
use Rattle.cap_model.specs.Auth.{Held}
use Rattle.cap_model.specs.declared.kind.Kind.TheVariants as kinds
use Rattle.cap_audit.proofs.RunsWithin.{runs_within}

module _ (spec : Spec) (labels : List ℕ) (s : State) (w : IsWithin spec s) where
  held_audited : (l : ℕ) (a : Authority) (m : ℕ) → Held spec labels s l a m → Audited spec labels l a m
  held_audited l a m (c, i, cap, there, conf, from, to) =
      let h : Holds spec c cap = w.contents c i (Capability cap) there in
      search (rules, lessened_confers)

  structural_audited : (l : ℕ) (a : Authority) (m : ℕ) → Structural spec labels s l a m → Audited spec labels l a m
  structural_audited l a m (of_buffer e) = at_boot (of_buffer e)
  structural_audited l a m (of_table e) = at_boot (of_table e)
  structural_audited l a m (of_root (t, d, there, is, from, to)) = at_boot (of_root (t, d, sym (w.roots t) ∙ there, is, from, to))
  structural_audited l a m (of_space (t, d, there, is, from, to)) =
      at_boot (of_space (t, d, sym (w.spaces t) ∙ there, is, from, to))
  structural_audited l a m (of_reply (u, reply, owes, is, from, to)) =
      let owed : Owed spec u reply = w.pending u reply owes in
      of_call (reply.caller, u, owed.to, owed.from, owed.calls, is, from, to)
  structural_audited l a m (of_saved (c, i, reply, there, is, from, to)) =
      let saved : Saved spec c reply = w.contents c i (SavedReply reply) there in
      of_save (reply.caller, saved.thread, c, saved.owed.to, saved.owed.from, saved.owed.calls, saved.root, is, from, to)
  structural_audited l a m (of_mapped (added, there, conf, from, to)) =
      let by : AddedBy spec added = w.mapped added there in
      search (rules, lessened_kind, kind_is)
  structural_audited l a m (of_irq (d, n, there, is, from, to)) = elim (w.irqs d n there) [
    | inl old ↦ at_boot (of_irq (d, n, old, is, from, to))
    | inr binds ↦ of_bind (d, n, binds, is, from, to)
  ]

  pub within_audited : (l : ℕ) (a : Authority) (m : ℕ) → Auth spec labels s l a m → Audited spec labels l a m
  within_audited l a m (inl e) = held_audited l a m e
  within_audited l a m (inr e) = structural_audited l a m e

pub reached_audited : (spec : Spec) (labels : List ℕ) → HoldsNoThread spec → (l : ℕ) (a : Authority) (m : ℕ)
    → Reaches spec labels l a m → Audited spec labels l a m
reached_audited spec labels none l a m (run, s, leads, auth) =
    within_audited spec labels s (runs_within spec run s none leads) l a m auth
