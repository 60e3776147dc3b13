-- A step changes only what the policy lets the label of its thread change.
use Rattle.flow_model.proofs.LawsCommon.{Call, Cap, Capability, Commands, Control, Edge, Grant, Handle, IsLet, List, MayFill, MayTurn, None, Reached, SavedReply, Some, Spec, State, Stays, Step, StepTo, World, added, dropped, false, grown, grown_at, inl}
use Rattle.flow_model.proofs.LawsCommon.{inr, label_of, lessened, node_at, refl, replied, thread_at, thread_of, true, with_pending, without, ℕ}
use Rattle.cap_machine.specs.declared.step.Step.TheVariants as steps
use Rattle.cap_model.specs.declared.kind.Kind.TheVariants as kinds
use Rattle.flow_model.proofs.Commanding.{controls, its_own, of_its_root, by_own, by_own_space, root_meets, peer_meets, owes_lets, saved_lets}
use Rattle.flow_model.proofs.Writes.{unchanged, write_node, write_thread, write_irq, write_added}

module _ (spec : Spec) (labels : List ℕ) (policy : List Edge) (stays : Stays spec labels policy) (w : World)
    (reached : Reached spec w.state) where
  abbrev here : ℕ → ℕ
  here x = label_of labels x

  -- what a thread controls
  fills : (l c : ℕ) → Commands policy l (here c) → MayFill policy l (here c)
  fills l c commands = inl (controls policy l (here c) Control commands)

  itself_turns : (t : ℕ) → MayTurn policy (here t) (here t)
  itself_turns t = inl (its_own policy (here t) Control)

  filled : (l c : ℕ) (new : World) (cap : Cap) → IsLet policy labels l w new → MayFill policy l (here c)
      → IsLet policy labels l w (record new { state = added new.state c cap })
  filled l c new cap before may = write_node policy labels l w new before c (grown (node_at new.state c) (Capability cap)) may

  emptied : (l c i : ℕ) → MayFill policy l (here c) → IsLet policy labels l w (record w { state = dropped w.state c i })
  emptied l c i may = write_node policy labels l w w (unchanged policy labels l w) c (without (node_at w.state c) i) may

  answered : (t caller : ℕ) → MayTurn policy (here t) (here caller)
      → IsLet policy labels (here t) w (record w { state = replied w.state t caller })
  answered t caller may =
      let first : World = record w { state = record w.state { threads = with_pending w.state.threads t None } } in
      write_thread policy labels (here t) w first (write_thread policy labels (here t) w w (unchanged policy labels (here t) w) t
      (record (thread_at w.state t) { pending = None }) (itself_turns t)) caller
      (record (thread_at first.state caller) { waits = false }) may

  -- each of the twelve kinds of step
  pub step_let : (s : State) (step : Step) → StepTo spec w.state step s
      → IsLet policy labels (here (thread_of step)) w (record w { state = s })
  step_let s (steps.Take t i j r) (c, to, x, acts, own, there, e) =
      rw e (filled (here t) c w (lessened x r) (unchanged policy labels (here t) w)
      (fills (here t) c (of_its_root spec labels policy stays w.state reached t c acts.root)))
  step_let s (steps.Put t i j r) (c, to, x, acts, own, there, e) =
      rw e (filled (here t) to.object w (lessened x r) (unchanged policy labels (here t) w)
      (inl (by_own spec labels policy stays w.state reached t c i kinds.CNode to Control acts.root own refl)))
  step_let s (steps.Grant t i u j k r) (c, to, x, d, from, acts, own, may, there, peer, e) =
      let grants = by_own spec labels policy stays w.state reached t c i kinds.Endpoint to Grant acts.root own may in
      rw e (filled (here t) d w (lessened x r) (unchanged policy labels (here t) w)
      (inr (inl (root_meets spec labels policy stays w.state reached (here t) t u j to.object d Grant from grants peer))))
  step_let s (steps.Call t i u j) (c, to, d, from, acts, own, may, peer, e) =
      let calls = by_own spec labels policy stays w.state reached t c i kinds.Endpoint to Call acts.root own may in
      let p = Some (record { caller = t; grants = from.rights.grant }) in
      let first : World = record w { state = record w.state { threads = with_pending w.state.threads u p } } in
      rw e (write_thread policy labels (here t) w first
      (write_thread policy labels (here t) w w (unchanged policy labels (here t) w) u
      (record (thread_at w.state u) { pending = p })
      (inr (inl (peer_meets spec labels policy stays w.state reached (here t) t u j to.object d Call from calls peer)))) t
      (record (thread_at first.state t) { waits = true }) (itself_turns t))
  step_let s (steps.Reply t None) (c, p, acts, owes, e) =
      rw e (answered t p.caller (inr (inr (owes_lets spec labels policy stays w.state reached t p owes))))
  step_let s (steps.Reply t (Some copy)) (c, p, x, d, acts, owes, grants, there, root, e) =
      let lets = owes_lets spec labels policy stays w.state reached t p owes in
      rw e (filled (here t) d (record w { state = replied w.state t p.caller }) (lessened x copy.1)
      (answered t p.caller (inr (inr lets)))
      (inr (inr (here p.caller, lets, of_its_root spec labels policy stays w.state reached p.caller d root))))
  step_let s (steps.SetCspace t i j) (c, to, x, acts, own, of, e) =
      rw e (write_thread policy labels (here t) w w (unchanged policy labels (here t) w) to.object
      (record (thread_at w.state to.object) { root = Some x.object })
      (inl (by_own spec labels policy stays w.state reached t c i kinds.Thread to Control acts.root own refl)))
  step_let s (steps.SetVspace t i j) (c, to, x, acts, own, of, e) =
      rw e (write_thread policy labels (here t) w w (unchanged policy labels (here t) w) to.object
      (record (thread_at w.state to.object) { space = Some x.object })
      (inl (by_own spec labels policy stays w.state reached t c i kinds.Thread to Control acts.root own refl)))
  step_let s (steps.Map t i j r) (c, frame, x, acts, own, of, e) =
      rw e (write_added policy labels (here t) w w (unchanged policy labels (here t) w) _
      (by_own_space spec labels policy stays w.state reached t c j x acts.root of))
  step_let s (steps.Bind t i j) (c, irq, x, acts, own, of, writes, e) =
      rw e (write_irq policy labels (here t) w w (unchanged policy labels (here t) w) irq.object (Some x.object)
      (by_own spec labels policy stays w.state reached t c i kinds.Irq irq Handle acts.root own refl))
  step_let s (steps.Drop t i) (c, x, acts, there, e) =
      rw e (emptied (here t) c i (fills (here t) c (of_its_root spec labels policy stays w.state reached t c acts.root)))
  step_let s (steps.Save t) (c, p, acts, owes, e) =
      let first : World = record w { state = record w.state { nodes = grown_at w.state.nodes c (SavedReply p) } } in
      rw e (write_thread policy labels (here t) w first
      (write_node policy labels (here t) w w (unchanged policy labels (here t) w) c (grown (node_at w.state c) (SavedReply p))
      (fills (here t) c (of_its_root spec labels policy stays w.state reached t c acts.root))) t
      (record (thread_at w.state t) { pending = None }) (itself_turns t))
  step_let s (steps.ReplyTo t i None) (c, p, acts, there, e) =
      rw e (write_thread policy labels (here t) w (record w { state = dropped w.state c i })
      (emptied (here t) c i (fills (here t) c (of_its_root spec labels policy stays w.state reached t c acts.root))) p.caller
      (record (thread_at w.state p.caller) { waits = false })
      (inr (inr (saved_lets spec labels policy stays w.state reached t c i p acts.root there))))
  step_let s (steps.ReplyTo t i (Some copy)) (c, p, x, d, acts, there, grants, has, root, e) =
      let lets = saved_lets spec labels policy stays w.state reached t c i p acts.root there in
      let up = fills (here t) c (of_its_root spec labels policy stays w.state reached t c acts.root) in
      let far : MayFill policy (here t) (here d) =
      inr (inr (here p.caller, lets, of_its_root spec labels policy stays w.state reached p.caller d root)) in
      let first : World = record w { state = added w.state d (lessened x copy.1) } in
      rw e
      (write_thread policy labels (here t) w (record w { state = dropped first.state c i })
      (write_node policy labels (here t) w first (filled (here t) d w (lessened x copy.1) (unchanged policy labels (here t) w)
      far) c (without (node_at first.state c) i) up) p.caller
      (record (thread_at w.state p.caller) { waits = false }) (inr (inr lets)))
