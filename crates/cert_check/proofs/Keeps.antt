-- Every step keeps what a safe state has, and so every run from the boot state stays within the policy.
use Rattle.cert_check.proofs.Common.{All-contains, All-filter, All-push, AsyncSend, Authority, Bool, Call, Cap, Capability, Content, Control, Edge, Grant, GrantBack, Handle, Has, List, Node, None, Passes, Pending, Receive, SavedReply, Some, Spec}
use Rattle.cert_check.proofs.Common.{State, ThreadState, Valid, [], arith, boot, cases_eq, confers, content_in, false, get_or, inr, kind_confers, label_of, no_node, no_thread, node_at, not, refl, set, thread_at, true, ℕ, ◌&&◌, ◌++◌}
use Rattle.cert_check.proofs.Common.{rules, ◌==◌, ◌||◌, ◌∷◌, ◌≡◌, ◌≢◌}
use Rattle.std.proofs.lemmas.Map.Views.{Contains-from_lookup}
use Rattle.cap_model.specs.Kinds.{is_at, is_space_root}
use Rattle.cap_model.specs.Lessened.{lessened, both_rights}
use Rattle.cap_model.specs.declared.kind.Kind.{Kind}
use Rattle.cap_model.specs.declared.kind.Kind.TheVariants as kinds
use Rattle.cap_model.specs.declared.object.Object.TheVariants as objects
use Rattle.cap_model.specs.declared.rights.Rights.{Rights}
use Rattle.cap_model.proofs.Conferring.{lessened_confers, lessened_kind, not_reply, not_reply_kind}
use Rattle.cap_model.proofs.Kept.{kind_is}
use Rattle.cap_machine.specs.declared.step.Step.{Step}
use Rattle.cap_machine.specs.declared.step.Step.TheVariants as steps
use Rattle.cap_machine.specs.Effects.{grown, without, grown_at, waiting, with_pending, with_root, with_space, read_write, added, dropped, called, replied, saved, released}
use Rattle.cap_machine.specs.Runs.{Run, Reaches}
use Rattle.cap_machine.specs.StepTable.{Acts, Own, Peer, StepTo}
use Rattle.cap_machine.proofs.Applied.{read_written}
use Rattle.cert_check.proofs.Safe.{Flows, Fine, FineReply, FineContent, FineNode, FineThread, FineIrq, FineMapped, Safe, safe_edges, boot_safe}
use Rattle.cap_model.proofs.SpaceRoots.{root_controls}

-- a fact on each item stays under a write of an item that has it
each_after_write : {A : Type 0} (P : ℕ → A → Type 0) (xs : List A) (i : ℕ) (v d : A) → ((k : ℕ) → P k (get_or xs k d)) → P i v
    → (k : ℕ) → P k (get_or (set xs i v) k d)
each_after_write {A} P xs i v d before here k = search (rules, read_written)

-- what a change of a thread asks
module _ (labels : List ℕ) (cert : List Edge) (t : ℕ) (thread : ThreadState) (fine : FineThread labels cert t thread) where
  pending_fine : (reply : Pending) → FineReply labels cert (label_of labels t) reply
      → FineThread labels cert t (record thread { pending = Some reply })
  pending_fine reply way = search (rules)

  none_fine : FineThread labels cert t (record thread { pending = None })
  none_fine = record { root = fine.root; space = fine.space; through = λ q e. absurd cc }

  waits_fine : (b : Bool) → FineThread labels cert t (record thread { waits = b })
  waits_fine b = record { root = fine.root; space = fine.space; through = fine.through }

  root_fine : (d : ℕ) → Flows cert (label_of labels t) Control (label_of labels d)
      → FineThread labels cert t (record thread { root = Some d })
  root_fine d flows = search (rules)

  space_fine : (d : ℕ) → Flows cert (label_of labels t) Control (label_of labels d)
      → FineThread labels cert t (record thread { space = Some d })
  space_fine d flows = search (rules)

module _ (spec : Spec) (labels : List ℕ) (policy cert : List Edge) (v : Valid spec labels policy cert) where
  content_fine : (s : State) (c i : ℕ) (content : Content) → Safe spec labels cert s → content_in s c i ≡ Some content
      → FineContent spec labels cert (label_of labels c) content
  content_fine s c i content safe there =
      All-contains (λ (slot : ℕ × Content). FineContent spec labels cert (label_of labels c) slot.1) (node_at s c).slots
      (i, content) (safe.nodes c)
      (Contains-from_lookup {eq = λ q n. n == q} (λ x y h. grind arith) i content (node_at s c).slots there)

  -- what a capability at a number confers is in the certificate
  fine_at : (s : State) (c i : ℕ) (cap : Cap) → Safe spec labels cert s → content_in s c i ≡ Some (Capability cap)
      → Fine spec labels cert (label_of labels c) cap
  fine_at s c i cap safe there = content_fine s c i (Capability cap) safe there

  -- an authority that an own capability confers by its kind
  own_has : (s : State) (c i : ℕ) (kind : Kind) (cap : Cap) (a : Authority) → Safe spec labels cert s
      → Own (is_at spec kind) s c i cap → kind_confers kind cap.rights a ≡ true
      → Has cert (label_of labels c) a (label_of labels cap.object)
  own_has s c i kind cap a safe own conf = search (rules, fine_at, kind_is)

  own_controls : (s : State) (c i : ℕ) (cap : Cap) → Safe spec labels cert s → Own (is_space_root spec) s c i cap
      → Has cert (label_of labels c) Control (label_of labels cap.object)
  own_controls s c i cap safe own = fine_at s c i cap safe own.there Control (root_controls spec cap own.is)

  -- by the root edge a thread has what its root has, and the root what its thread has
  at_thread : (t c : ℕ) → Flows cert (label_of labels t) Control (label_of labels c)
      → Passes cert (label_of labels c) (label_of labels t)
  at_thread t c flows a x other has = search (rules, cases_eq)

  at_root : (t c : ℕ) → Flows cert (label_of labels t) Control (label_of labels c)
      → Passes cert (label_of labels t) (label_of labels c)
  at_root t c flows a x other has = search (rules, cases_eq)

  -- a lessened copy goes where the edges go
  copy_fine : (l m : ℕ) (cap : Cap) (r : Rights) → Passes cert l m → Fine spec labels cert l cap
      → Fine spec labels cert m (lessened cap r)
  copy_fine l m cap r passes fine a conf = search (rules, lessened_confers, not_reply)

  node_safe : (s : State) (c : ℕ) (node : Node) → Safe spec labels cert s → FineNode spec labels cert c node
      → Safe spec labels cert (record s { nodes = set s.nodes c node })
  node_safe s c node safe fine = record {
    nodes = each_after_write (FineNode spec labels cert) s.nodes c node no_node safe.nodes fine;
    threads = safe.threads;
    irqs = safe.irqs;
    mapped = safe.mapped;
  }

  -- a CNode with a fine content more is fine
  grown_safe : (s : State) (c : ℕ) (content : Content) → Safe spec labels cert s
      → FineContent spec labels cert (label_of labels c) content
      → Safe spec labels cert (record s { nodes = grown_at s.nodes c content })
  grown_safe s c content safe fine =
      node_safe s c (grown (node_at s c) content) safe
      (All-push (λ (slot : ℕ × Content). FineContent spec labels cert (label_of labels c) slot.1) (node_at s c).slots
      ((node_at s c).next, content) (safe.nodes c) fine)

  dropped_safe : (s : State) (c i : ℕ) → Safe spec labels cert s → Safe spec labels cert (dropped s c i)
  dropped_safe s c i safe =
      node_safe s c (without (node_at s c) i) safe
      (All-filter (λ (slot : ℕ × Content). not (slot.0 == i)) (λ (slot : ℕ × Content). FineContent spec labels cert
      (label_of labels c) slot.1) (node_at s c).slots (safe.nodes c))

  thread_safe : (s : State) (t : ℕ) (thread : ThreadState) → Safe spec labels cert s → FineThread labels cert t thread
      → Safe spec labels cert (record s { threads = set s.threads t thread })
  thread_safe s t thread safe fine = record {
    nodes = safe.nodes;
    threads = each_after_write (FineThread labels cert) s.threads t thread no_thread safe.threads fine;
    irqs = safe.irqs;
    mapped = safe.mapped;
  }

  waiting_safe : (s : State) (t : ℕ) (b : Bool) → Safe spec labels cert s
      → Safe spec labels cert (record s { threads = waiting s.threads t b })
  waiting_safe s t b safe = thread_safe s t (record (thread_at s t) { waits = b }) safe
      (waits_fine labels cert t (thread_at s t) (safe.threads t) b)

  owes_none : (s : State) (t : ℕ) → Safe spec labels cert s
      → Safe spec labels cert (record s { threads = with_pending s.threads t None })
  owes_none s t safe = thread_safe s t (record (thread_at s t) { pending = None }) safe
      (none_fine labels cert t (thread_at s t) (safe.threads t))

  -- the steps

  take_safe : (s : State) (c i j : ℕ) (to cap : Cap) (r : Rights) → Safe spec labels cert s
      → Own (is_at spec kinds.CNode) s c i to → content_in s to.object j ≡ Some (Capability cap)
      → Safe spec labels cert (added s c (lessened cap r))
  take_safe s c i j to cap r safe own there =
      let control : Has cert (label_of labels c) Control (label_of labels to.object) = search (rules, own_has) in
      grown_safe s c (Capability (lessened cap r)) safe (copy_fine (label_of labels to.object) (label_of labels c) cap r
      (v.control_back _ _ control) (fine_at s to.object j cap safe there))

  put_safe : (s : State) (c i j : ℕ) (to cap : Cap) (r : Rights) → Safe spec labels cert s → Own (is_at spec kinds.CNode) s c i to
      → content_in s c j ≡ Some (Capability cap)
      → Safe spec labels cert (added s to.object (lessened cap r))
  put_safe s c i j to cap r safe own there =
      let control : Has cert (label_of labels c) Control (label_of labels to.object) = search (rules, own_has) in
      grown_safe s to.object (Capability (lessened cap r)) safe (copy_fine (label_of labels c) (label_of labels to.object) cap r
      (v.control_out _ _ control) (fine_at s c j cap safe there))

  -- the peer's root has Receive, and GrantBack where its capability has G
  peer_receives : (s : State) (t u j e d : ℕ) (from : Cap) → Safe spec labels cert s → Peer spec s t u j e d from
      → Has cert (label_of labels d) Receive (label_of labels e)
  peer_receives s t u j e d from safe peer = rw (← peer.same) (own_has s d j kinds.Endpoint from Receive safe peer.own peer.reads)

  peer_grants_back : (s : State) (t u j e d : ℕ) (from : Cap) → Safe spec labels cert s → Peer spec s t u j e d from
      → from.rights.grant ≡ true
      → Has cert (label_of labels d) GrantBack (label_of labels e)
  peer_grants_back s t u j e d from safe peer grants =
      rw (← peer.same) (own_has s d j kinds.Endpoint from GrantBack safe peer.own (rw (peer.reads, grants) refl))

  grant_safe : (s : State) (t c i u j k d : ℕ) (to cap from : Cap) (r : Rights) → Safe spec labels cert s
      → Own (is_at spec kinds.Endpoint) s c i to
      → to.rights.write && to.rights.grant ≡ true → content_in s c k ≡ Some (Capability cap) → Peer spec s t u j to.object d from
      → Safe spec labels cert (added s d (lessened cap r))
  grant_safe s t c i u j k d to cap from r safe own may there peer =
      let grant : Has cert (label_of labels c) Grant (label_of labels to.object) = search (rules, own_has) in
      grown_safe s d (Capability (lessened cap r)) safe
      (copy_fine (label_of labels c) (label_of labels d) cap r
      (v.grant _ _ _ grant (peer_receives s t u j to.object d from safe peer)) (fine_at s c k cap safe there))

  called_safe : (s : State) (t c i u j d : ℕ) (to from : Cap) → Safe spec labels cert s → Acts s t c
      → Own (is_at spec kinds.Endpoint) s c i to
      → to.rights.write && (to.rights.grant || to.rights.reply) ≡ true → Peer spec s t u j to.object d from
      → Safe spec labels cert (called s t u from.rights.grant)
  called_safe s t c i u j d to from safe acts own may peer =
      let e = label_of labels to.object in
      let caller : Passes cert (label_of labels c) (label_of labels t) = at_thread t c ((safe.threads t).root c acts.root) in
      let listener : Passes cert (label_of labels d) (label_of labels u) = search (rules, at_thread) in
      let way : FineReply labels cert (label_of labels u) (record { caller = t; grants = from.rights.grant }) = record {
        by = e;
        call = caller Call e (λ w. cc) (own_has s c i kinds.Endpoint to Call safe own may);
        receive = listener Receive e (λ w. cc) (peer_receives s t u j to.object d from safe peer);
        back = λ grants. listener GrantBack e (λ w. cc) (peer_grants_back s t u j to.object d from safe peer grants);
      } in
      waiting_safe (record s { threads = with_pending s.threads u (Some (record { caller = t; grants = from.rights.grant })) }) t
      true
      (thread_safe s u (record (thread_at s u) { pending = Some (record { caller = t; grants = from.rights.grant }) }) safe
      (pending_fine labels cert u (thread_at s u) (safe.threads u) (record { caller = t; grants = from.rights.grant }) way))

  replied_safe : (s : State) (t caller : ℕ) → Safe spec labels cert s → Safe spec labels cert (replied s t caller)
  replied_safe s t caller safe = waiting_safe (record s { threads = with_pending s.threads t None }) caller false
      (owes_none s t safe)

  -- a copy back goes from a label that may reply to the caller's thread and root
  copies_back : (s : State) (l d : ℕ) (reply : Pending) (cap : Cap) (r : Rights) → Safe spec labels cert s
      → FineReply labels cert l reply → reply.grants ≡ true
      → (thread_at s reply.caller).root ≡ Some d → Fine spec labels cert l cap
      → FineContent spec labels cert (label_of labels d) (Capability (lessened cap r))
  copies_back s l d reply cap r safe way grants root fine =
      copy_fine l (label_of labels d) cap r
      (λ a x other has. at_root reply.caller d ((safe.threads reply.caller).root d root) a x other
      (v.grant_back _ _ _ way.call (way.back grants) a x other has))
      fine

  -- from the root of t by its thread
  reply_copy : (s : State) (t c k d : ℕ) (reply : Pending) (cap : Cap) (r : Rights) → Safe spec labels cert s → Acts s t c
      → (thread_at s t).pending ≡ Some reply → reply.grants ≡ true
      → content_in s c k ≡ Some (Capability cap) → (thread_at s reply.caller).root ≡ Some d
      → Safe spec labels cert (added (replied s t reply.caller) d (lessened cap r))
  reply_copy s t c k d reply cap r safe acts owes grants there root =
      let up : Passes cert (label_of labels c) (label_of labels t) = at_thread t c ((safe.threads t).root c acts.root) in
      let fine : Fine spec labels cert (label_of labels t) cap = search (rules, not_reply, fine_at) in
      grown_safe (replied s t reply.caller) d (Capability (lessened cap r)) (replied_safe s t reply.caller safe)
      (copies_back s (label_of labels t) d reply cap r safe ((safe.threads t).through reply owes) grants root fine)

  cspace_safe : (s : State) (c i j : ℕ) (to cap : Cap) → Safe spec labels cert s → Own (is_at spec kinds.Thread) s c i to
      → Own (is_at spec kinds.CNode) s c j cap
      → Safe spec labels cert (record s { threads = with_root s.threads to.object cap.object })
  cspace_safe s c i j to cap safe own of =
      let over : Has cert (label_of labels c) Control (label_of labels to.object) = search (rules, own_has) in
      thread_safe s to.object (record (thread_at s to.object) { root = Some cap.object }) safe
      (root_fine labels cert to.object (thread_at s to.object) (safe.threads to.object) cap.object
      (λ differ. v.control_out _ _ over Control (label_of labels cap.object) (λ w. cc)
      (own_has s c j kinds.CNode cap Control safe of refl)))

  vspace_safe : (s : State) (c i j : ℕ) (to cap : Cap) → Safe spec labels cert s → Own (is_at spec kinds.Thread) s c i to
      → Own (is_space_root spec) s c j cap
      → Safe spec labels cert (record s { threads = with_space s.threads to.object cap.object })
  vspace_safe s c i j to cap safe own of =
      let over : Has cert (label_of labels c) Control (label_of labels to.object) = search (rules, own_has) in
      thread_safe s to.object (record (thread_at s to.object) { space = Some cap.object }) safe
      (space_fine labels cert to.object (thread_at s to.object) (safe.threads to.object) cap.object
      (λ differ. v.control_out _ _ over Control (label_of labels cap.object) (λ w. cc) (own_controls s c j cap safe of)))

  map_safe : (s : State) (c i j : ℕ) (frame cap : Cap) (r : Rights) → Safe spec labels cert s
      → Own (is_at spec kinds.Frame) s c i frame → Own (is_space_root spec) s c j cap
      → Safe spec labels cert (record s {
        mapped = s.mapped ++ record {
          space = cap.object;
          frame = frame.object;
          rights = both_rights frame.rights (read_write r);
        } ∷ [];
      })
  map_safe s c i j frame cap r safe own of = record {
    nodes = safe.nodes;
    threads = safe.threads;
    irqs = safe.irqs;
    mapped =
        All-push (FineMapped labels cert) s.mapped _ safe.mapped
        (λ a conf differ.
        let whole : kind_confers kinds.Frame frame.rights a ≡ true = search (rules, lessened_kind) in
        v.control_out _ _ (own_controls s c j cap safe of) a (label_of labels frame.object)
        (not_reply_kind kinds.Frame frame.rights a whole)
        (own_has s c i kinds.Frame frame a safe own whole));
  }

  bind_safe : (s : State) (c i j : ℕ) (irq cap : Cap) → Safe spec labels cert s → Own (is_at spec kinds.Irq) s c i irq
      → Own (is_at spec kinds.Notification) s c j cap → cap.rights.write ≡ true
      → Safe spec labels cert (record s { irqs = set s.irqs irq.object (Some cap.object) })
  bind_safe s c i j irq cap safe own of writes = record {
    nodes = safe.nodes;
    threads = safe.threads;
    irqs =
        each_after_write (FineIrq labels cert) s.irqs irq.object (Some cap.object) None safe.irqs
        (λ n e differ.
        let same : cap.object ≡ n = cc in
        rw (← same)
        (v.bind _ _ _ (own_has s c i kinds.Irq irq Handle safe own refl) (own_has s c j kinds.Notification cap AsyncSend safe of
        writes) (λ w. differ (rw (← same) w))));
    mapped = safe.mapped;
  }

  -- a reply goes from the thread to its root with the way that it came by
  save_safe : (s : State) (t c : ℕ) (reply : Pending) → Safe spec labels cert s → Acts s t c
      → (thread_at s t).pending ≡ Some reply → Safe spec labels cert (saved s t c reply)
  save_safe s t c reply safe acts owes =
      let way : FineReply labels cert (label_of labels t) reply = (safe.threads t).through reply owes in
      let down : Passes cert (label_of labels t) (label_of labels c) = at_root t c ((safe.threads t).root c acts.root) in
      let kept : FineReply labels cert (label_of labels c) reply = search (rules) in
      owes_none (record s { nodes = grown_at s.nodes c (SavedReply reply) }) t (grown_safe s c (SavedReply reply) safe kept)

  released_safe : (s : State) (c i caller : ℕ) → Safe spec labels cert s → Safe spec labels cert (released s c i caller)
  released_safe s c i caller safe = waiting_safe (dropped s c i) caller false (dropped_safe s c i safe)

  -- from the CNode of the saved reply
  saved_copy : (s : State) (c i k d : ℕ) (reply : Pending) (cap : Cap) (r : Rights) → Safe spec labels cert s
      → content_in s c i ≡ Some (SavedReply reply) → reply.grants ≡ true
      → content_in s c k ≡ Some (Capability cap) → (thread_at s reply.caller).root ≡ Some d
      → Safe spec labels cert (released (added s d (lessened cap r)) c i reply.caller)
  saved_copy s c i k d reply cap r safe there grants has root =
      released_safe (added s d (lessened cap r)) c i reply.caller
      (grown_safe s d (Capability (lessened cap r)) safe
      (copies_back s (label_of labels c) d reply cap r safe (content_fine s c i (SavedReply reply) safe there) grants root
      (fine_at s c k cap safe has)))

  -- each of the twelve kinds of step
  step_safe : (s new : State) (step : Step) → Safe spec labels cert s → StepTo spec s step new → Safe spec labels cert new
  step_safe s new (steps.Take t i j r) safe (c, to, x, acts, own, there, e) = rw e (take_safe s c i j to x r safe own there)
  step_safe s new (steps.Put t i j r) safe (c, to, x, acts, own, there, e) = rw e (put_safe s c i j to x r safe own there)
  step_safe s new (steps.Grant t i u j k r) safe (c, to, x, d, from, acts, own, may, there, peer, e) =
      rw e (grant_safe s t c i u j k d to x from r safe own may there peer)
  step_safe s new (steps.Call t i u j) safe (c, to, d, from, acts, own, may, peer, e) =
      rw e (called_safe s t c i u j d to from safe acts own may peer)
  step_safe s new (steps.Reply t None) safe (c, p, acts, owes, e) = rw e (replied_safe s t p.caller safe)
  step_safe s new (steps.Reply t (Some copy)) safe (c, p, x, d, acts, owes, grants, there, root, e) =
      rw e (reply_copy s t c copy.0 d p x copy.1 safe acts owes grants there root)
  step_safe s new (steps.SetCspace t i j) safe (c, to, x, acts, own, of, e) = rw e (cspace_safe s c i j to x safe own of)
  step_safe s new (steps.SetVspace t i j) safe (c, to, x, acts, own, of, e) = rw e (vspace_safe s c i j to x safe own of)
  step_safe s new (steps.Map t i j r) safe (c, frame, x, acts, own, of, e) = rw e (map_safe s c i j frame x r safe own of)
  step_safe s new (steps.Bind t i j) safe (c, irq, x, acts, own, of, writes, e) =
      rw e (bind_safe s c i j irq x safe own of writes)
  step_safe s new (steps.Drop t i) safe (c, x, acts, there, e) = rw e (dropped_safe s c i safe)
  step_safe s new (steps.Save t) safe (c, p, acts, owes, e) = rw e (save_safe s t c p safe acts owes)
  step_safe s new (steps.ReplyTo t i None) safe (c, p, acts, there, e) = rw e (released_safe s c i p.caller safe)
  step_safe s new (steps.ReplyTo t i (Some copy)) safe (c, p, x, d, acts, there, grants, has, root, e) =
      rw e (saved_copy s c i copy.0 d p x copy.1 safe there grants has root)

  run_safe : (run : List Step) (s new : State) → Safe spec labels cert s → Run spec s run new → Safe spec labels cert new
  run_safe [] s new safe e = rw e safe
  run_safe (step ∷ run) s new safe (mid, first, rest) = run_safe run mid new (step_safe s mid step safe first) rest

  -- every edge between labels that a run reaches is in the policy
  pub runs_stay : (l : ℕ) (a : Authority) (m : ℕ) → Reaches spec labels l a m → l ≢ m → Has policy l a m
  runs_stay l a m (run, s, leads, auth) differ = search (rules, safe_edges, run_safe, boot_safe)
