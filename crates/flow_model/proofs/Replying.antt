-- Who may reply lies on the side of the caller: a call comes by an endpoint, whose senders and receivers lie on one side. And
-- steps keep the lengths of the lists of a state.
use Rattle.std.proofs.Common.{rules}
use Rattle.flow_model.proofs.LawsCommon.{All, All-filter, All-push, Bool, Cap, Capability, Contains, Contains-get_or, Content, Edge, IsClosed, List, Node, None, Owes, Pending, Reached, Run, SavedReply, Some, Spec, State, Stays, Step, StepTo}
use Rattle.flow_model.proofs.LawsCommon.{ThreadState, [], added, boot, boot_irq, boot_node, boot_thread, called, contained, content_in, dropped, false, get_or, grown, grown_at, in_set, inr, length, length-map, length-set, lessened, no_node}
use Rattle.flow_model.proofs.LawsCommon.{no_thread, node_at, none_saved, not, nothing_pending, reached_next, read_written, refl, released, replied, set, subst, sym, thread_at, true, waiting, with_pending, without, ℕ, ◌==◌, ◌∙◌, ◌∷◌, ◌≡◌}
use Rattle.cap_machine.specs.declared.step.Step.TheVariants as steps
use Rattle.cap_model.specs.declared.spec.Entry.{Entry}
use Rattle.flow_model.proofs.Sides.{side_root, side_sender, side_peer}

-- a saved reply in c goes to the side of c
abbrev Beside : (ℕ → Bool) → ℕ → Content → Type 0
Beside side c content = (p : Pending) → content ≡ SavedReply p → side c ≡ side p.caller

abbrev BesideNode : (ℕ → Bool) → ℕ → Node → Type 0
BesideNode side c node = All (λ (slot : ℕ × Content). Beside side c slot.1) node.slots

pub record Joined (spec : Spec) (side : ℕ → Bool) (s : State) : Type 0 where
  pub nodes_long : length s.nodes ≡ length spec.entries
  pub threads_long : length s.threads ≡ length spec.entries
  pub irqs_long : length s.irqs ≡ length spec.entries
  pub owes : (t : ℕ) (p : Pending) → Owes s t p → side t ≡ side p.caller
  pub nodes : (c : ℕ) → BesideNode side c (node_at s c)

module _ (spec : Spec) (side : ℕ → Bool) where
  node_joined : (s : State) (c : ℕ) (node : Node) → Joined spec side s → BesideNode side c node
      → Joined spec side (record s { nodes = set s.nodes c node })
  node_joined s c node joined beside = search (rules, length-set, read_written, no_node)

  thread_joined : (s : State) (t : ℕ) (thread : ThreadState) → Joined spec side s → ((p : Pending) → thread.pending ≡ Some p
      → side t ≡ side p.caller) → Joined spec side (record s { threads = set s.threads t thread })
  thread_joined s t thread joined owes = search (rules, length-set, read_written, no_thread)

  cap_joined : (s : State) (c : ℕ) (cap : Cap) → Joined spec side s → Joined spec side (added s c cap)
  cap_joined s c cap joined =
      node_joined s c (grown (node_at s c) (Capability cap)) joined (All-push (λ (slot : ℕ × Content). Beside side c slot.1)
      (node_at s c).slots ((node_at s c).next, Capability cap) (joined.nodes c) (λ p e. absurd cc))

  reply_joined : (s : State) (c : ℕ) (p : Pending) → Joined spec side s → side c ≡ side p.caller
      → Joined spec side (record s { nodes = grown_at s.nodes c (SavedReply p) })
  reply_joined s c p joined here =
      node_joined s c (grown (node_at s c) (SavedReply p)) joined
      (All-push (λ (slot : ℕ × Content). Beside side c slot.1) (node_at s c).slots ((node_at s c).next, SavedReply p)
      (joined.nodes c)
      (λ q e. (let same : p ≡ q = cc in subst (λ (x : Pending). side c ≡ side x.caller) same here)))

  dropped_joined : (s : State) (c i : ℕ) → Joined spec side s → Joined spec side (dropped s c i)
  dropped_joined s c i joined =
      node_joined s c (without (node_at s c) i) joined (All-filter (λ (slot : ℕ × Content). not (slot.0 == i))
      (λ (slot : ℕ × Content). Beside side c slot.1) (node_at s c).slots (joined.nodes c))

  waiting_joined : (s : State) (t : ℕ) (b : Bool) → Joined spec side s
      → Joined spec side (record s { threads = waiting s.threads t b })
  waiting_joined s t b joined = thread_joined s t (record (thread_at s t) { waits = b }) joined (joined.owes t)

  none_joined : (s : State) (t : ℕ) → Joined spec side s → Joined spec side (record s { threads = with_pending s.threads t None })
  none_joined s t joined = thread_joined s t (record (thread_at s t) { pending = None }) joined (λ p e. absurd cc)

  replied_joined : (s : State) (t caller : ℕ) → Joined spec side s → Joined spec side (replied s t caller)
  replied_joined s t caller joined = waiting_joined (record s { threads = with_pending s.threads t None }) caller false
      (none_joined s t joined)

  released_joined : (s : State) (c i caller : ℕ) → Joined spec side s → Joined spec side (released s c i caller)
  released_joined s c i caller joined = waiting_joined (dropped s c i) caller false (dropped_joined s c i joined)

  called_joined : (s : State) (t u : ℕ) (grants : Bool) → Joined spec side s → side u ≡ side t
      → Joined spec side (called s t u grants)
  called_joined s t u grants joined here =
      let p : Pending = record { caller = t; grants = grants } in
      waiting_joined (record s { threads = with_pending s.threads u (Some p) }) t true
      (thread_joined s u (record (thread_at s u) { pending = Some p }) joined
      (λ q e. (let same : p ≡ q = cc in subst (λ (x : Pending). side u ≡ side x.caller) same here)))

  boot_joined : Joined spec side (boot spec)
  boot_joined = record {
    nodes_long = length-map spec.entries (λ (e : Entry). boot_node e.object);
    threads_long = length-map spec.entries (λ (e : Entry). boot_thread e.object);
    irqs_long = length-map spec.entries (λ (e : Entry). boot_irq e.object);
    owes = λ t p has. (let none = nothing_pending spec t in absurd cc);
    nodes = λ c k d within p e.
        absurd (none_saved spec c (get_or (node_at (boot spec) c).slots k d).0 p
        (subst (λ (x : Content). Contains (node_at (boot spec) c).slots ((get_or (node_at (boot spec) c).slots k d).0, x)) e
        (Contains-get_or (node_at (boot spec) c).slots k d within)));
  }

module _ (spec : Spec) (labels : List ℕ) (policy : List Edge) (inside : ℕ → Bool) (stays : Stays spec labels policy)
    (closed : IsClosed policy inside) where
  step_joined : (s new : State) (step : Step) → Reached spec s → Joined spec (in_set labels inside) s → StepTo spec s step new
      → Joined spec (in_set labels inside) new
  step_joined s new (steps.Take t i j r) reached joined (c, to, x, acts, own, there, e) =
      rw e (cap_joined spec _ s c (lessened x r) joined)
  step_joined s new (steps.Put t i j r) reached joined (c, to, x, acts, own, there, e) =
      rw e (cap_joined spec _ s to.object (lessened x r) joined)
  step_joined s new (steps.Grant t i u j k r) reached joined (c, to, x, d, from, acts, own, may, there, peer, e) =
      rw e (cap_joined spec _ s d (lessened x r) joined)
  step_joined s new (steps.Call t i u j) reached joined (c, to, d, from, acts, own, may, peer, e) =
      let root = side_root spec labels policy inside stays closed s reached t c acts.root in
      let over = side_sender spec labels policy inside stays closed s reached c i to _ own may in
      let way = side_peer spec labels policy inside stays closed s reached t u j to.object d from peer in
      rw e (called_joined spec _ s t u from.rights.grant joined (sym way ∙ sym over ∙ sym root))
  step_joined s new (steps.Reply t None) reached joined (c, p, acts, owes, e) = rw e (replied_joined spec _ s t p.caller joined)
  step_joined s new (steps.Reply t (Some copy)) reached joined (c, p, x, d, acts, owes, grants, there, root, e) =
      rw e (cap_joined spec _ (replied s t p.caller) d (lessened x copy.1) (replied_joined spec _ s t p.caller joined))
  step_joined s new (steps.SetCspace t i j) reached joined (c, to, x, acts, own, of, e) =
      rw e (thread_joined spec _ s to.object (record (thread_at s to.object) { root = Some x.object }) joined
      (joined.owes to.object))
  step_joined s new (steps.SetVspace t i j) reached joined (c, to, x, acts, own, of, e) =
      rw e (thread_joined spec _ s to.object (record (thread_at s to.object) { space = Some x.object }) joined
      (joined.owes to.object))
  step_joined s new (steps.Map t i j r) reached joined (c, frame, x, acts, own, of, e) = search (rules)
  step_joined s new (steps.Bind t i j) reached joined (c, irq, x, acts, own, of, writes, e) = search (rules, length-set)
  step_joined s new (steps.Drop t i) reached joined (c, x, acts, there, e) = rw e (dropped_joined spec _ s c i joined)
  step_joined s new (steps.Save t) reached joined (c, p, acts, owes, e) =
      let root = side_root spec labels policy inside stays closed s reached t c acts.root in
      rw e (none_joined spec _ (record s { nodes = grown_at s.nodes c (SavedReply p) }) t
      (reply_joined spec _ s c p joined (sym root ∙ joined.owes t p owes)))
  step_joined s new (steps.ReplyTo t i None) reached joined (c, p, acts, there, e) =
      rw e (released_joined spec _ s c i p.caller joined)
  step_joined s new (steps.ReplyTo t i (Some copy)) reached joined (c, p, x, d, acts, there, grants, has, root, e) =
      rw e (released_joined spec _ (added s d (lessened x copy.1)) c i p.caller
      (cap_joined spec _ s d (lessened x copy.1) joined))

  run_joined : (run : List Step) (s new : State) → Reached spec s → Joined spec (in_set labels inside) s → Run spec s run new
      → Joined spec (in_set labels inside) new
  run_joined [] s new reached joined e = rw e joined
  run_joined (step ∷ run) s new reached joined (mid, first, rest) =
      run_joined run mid new (reached_next spec s mid step reached first) (step_joined s mid step reached joined first) rest

  module _ (s : State) (reached : Reached spec s) where
    pub is_joined : Joined spec (in_set labels inside) s
    is_joined = run_joined reached.steps (boot spec) s (record { steps = []; run = refl })
        (boot_joined spec (in_set labels inside)) reached.run

    pub side_owes : (t : ℕ) (reply : Pending) → Owes s t reply → in_set labels inside t ≡ in_set labels inside reply.caller
    side_owes t reply owes = is_joined.owes t reply owes

    pub side_saved : (c i : ℕ) (reply : Pending) → content_in s c i ≡ Some (SavedReply reply)
        → in_set labels inside c ≡ in_set labels inside reply.caller
    side_saved c i reply there = search (rules, in_set, node_at, is_joined, contained)
