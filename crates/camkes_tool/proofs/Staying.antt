-- Each plain step leaves memory as it was at boot.
use Rattle.camkes_tool.proofs.Common.{Bool, Contains, HoldsPlain, IsPlainStep, List, None, Run, Some, Spec, Step, [], ap, false, inl, inr, not, refl, set, subst, sym, true, ℕ, ◌==◌, ◌∙◌, ◌∷◌, ◌≡◌}
use Rattle.cap_machine.proofs.Applied.{read_written}
use Rattle.cap_machine.proofs.Fitting.{from_filter}
use Rattle.cap_machine.specs.Effects.{dropped, grown, grown_at, waiting, with_pending, without}
use Rattle.cap_machine.specs.StepTable.{StepTo}
use Rattle.cap_model.specs.State.{Node, State, boot, no_node, no_thread, node_at, thread_at}
use Rattle.cap_model.specs.declared.cap.Cap.{Cap}
use Rattle.cap_model.specs.declared.state.Content.{Content}
use Rattle.cap_model.specs.declared.state.Content.TheVariants.{Capability, SavedReply}
use Rattle.cap_model.specs.declared.state.ThreadState.{ThreadState}
use Rattle.flow_model.proofs.Reached.{Reached, reached_next}
use Rattle.std.proofs.lemmas.List.Elements.{Contains-push_cases}
use Rattle.cap_machine.specs.declared.step.Step.TheVariants as steps
use Rattle.reach_laws.proofs.PlainSteps.{steps_plain}
use Rattle.camkes_tool.specs.Static.{IsStatic}

module _ (spec : Spec) where
  thread_static : (s : State) (t : ℕ) (x : ThreadState) → IsStatic spec s → x.root ≡ (thread_at s t).root
      → x.space ≡ (thread_at s t).space → IsStatic spec (record s { threads = set s.threads t x })
  thread_static s t x is root space = record {
    mapped = is.mapped;
    roots = λ k. elim (read_written s.threads t k x no_thread) [
      | inl e ↦ ap (λ (y : ThreadState). y.root) e ∙ is.roots k
      | inr e ↦ ap (λ (y : ThreadState). y.root) e.1 ∙ root ∙ is.roots t
          ∙ ap (λ (n : ℕ). (thread_at (boot spec) n).root) (sym e.0)
    ];
    spaces = λ k. elim (read_written s.threads t k x no_thread) [
      | inl e ↦ ap (λ (y : ThreadState). y.space) e ∙ is.spaces k
      | inr e ↦ ap (λ (y : ThreadState). y.space) e.1 ∙ space ∙ is.spaces t
          ∙ ap (λ (n : ℕ). (thread_at (boot spec) n).space) (sym e.0)
    ];
    caps = is.caps;
  }

  node_static : (s : State) (c : ℕ) (node : Node) → IsStatic spec s
      → ((i : ℕ) (cap : Cap) → Contains node.slots (i, Capability cap) → Contains (node_at s c).slots (i, Capability cap))
      → IsStatic spec (record s { nodes = set s.nodes c node })
  node_static s c node is from = record {
    mapped = is.mapped;
    roots = is.roots;
    spaces = is.spaces;
    caps = λ k i cap there. elim (read_written s.nodes c k node no_node) [
      | inl e ↦ is.caps k i cap (subst (λ (n : Node). Contains n.slots (i, Capability cap)) e there)
      | inr e ↦ subst (λ (n : ℕ). Contains (node_at (boot spec) n).slots (i, Capability cap)) (sym e.0)
          (is.caps c i cap (from i cap (subst (λ (n : Node). Contains n.slots (i, Capability cap)) e.1 there)))
    ];
  }

  dropped_static : (s : State) (c i : ℕ) → IsStatic spec s → IsStatic spec (dropped s c i)
  dropped_static s c i is =
      node_static s c (without (node_at s c) i) is (λ j cap there. from_filter (λ (slot : ℕ × Content). not (slot.0 == i))
      (node_at s c).slots (j, Capability cap) there)

  waits_static : (s : State) (t : ℕ) (b : Bool) → IsStatic spec s → IsStatic spec (record s { threads = waiting s.threads t b })
  waits_static s t b is = thread_static s t (record (thread_at s t) { waits = b }) is refl refl

  -- each of the kinds of step that are plain
  step_static : (s new : State) (step : Step) → IsPlainStep step → IsStatic spec s → StepTo spec s step new → IsStatic spec new
  step_static s new (steps.Call t i u j) plain is (c, to, d, from, acts, own, may, peer, e) =
      let p = Some (record { caller = t; grants = from.rights.grant }) in
      rw e (waits_static (record s { threads = with_pending s.threads u p }) t true
      (thread_static s u (record (thread_at s u) { pending = p }) is refl refl))
  step_static s new (steps.Reply t None) plain is (c, p, acts, owes, e) =
      rw e (waits_static (record s { threads = with_pending s.threads t None }) p.caller false
      (thread_static s t (record (thread_at s t) { pending = None }) is refl refl))
  step_static s new (steps.Bind t i j) plain is (c, irq, x, acts, own, of, writes, e) =
      rw e (record { mapped = is.mapped; roots = is.roots; spaces = is.spaces; caps = is.caps })
  step_static s new (steps.Drop t i) plain is (c, x, acts, there, e) = rw e (dropped_static s c i is)
  step_static s new (steps.Save t) plain is (c, p, acts, owes, e) =
      let first : State = record s { nodes = grown_at s.nodes c (SavedReply p) } in
      let kept : IsStatic spec first =
      node_static s c (grown (node_at s c) (SavedReply p)) is
      (λ i cap there.
      elim (Contains-push_cases (node_at s c).slots ((node_at s c).next, SavedReply p) (i, Capability cap) there) [
        | inl old ↦ old
        | inr new ↦ absurd (let w : SavedReply p ≡ Capability cap = ap (λ (z : ℕ × Content). z.1) new in
            cc)
      ]) in
      rw e (thread_static first t (record (thread_at s t) { pending = None }) kept refl refl)
  step_static s new (steps.ReplyTo t i None) plain is (c, p, acts, there, e) =
      rw e (waits_static (dropped s c i) p.caller false (dropped_static s c i is))
  step_static s new _ plain is does = absurd plain

  boot_static : IsStatic spec (boot spec)
  boot_static = record { mapped = refl; roots = λ t. refl; spaces = λ t. refl; caps = λ c i cap there. there }

  steps_static : HoldsPlain spec → (run : List Step) (s new : State) → Reached spec s → IsStatic spec s → Run spec s run new
      → IsStatic spec new
  steps_static holds [] s new reached is e = rw e is
  steps_static holds (step ∷ run) s new reached is (mid, first, rest) =
      steps_static holds run mid new (reached_next spec s mid step reached first)
      (step_static s mid step (steps_plain spec holds reached.steps s reached.run step mid first) is first) rest

  pub run_static : HoldsPlain spec → (steps : List Step) (s : State) → Run spec (boot spec) steps s → IsStatic spec s
  run_static holds run s leads = steps_static holds run (boot spec) s (record { steps = []; run = refl }) boot_static leads
