-- What every state of a run keeps, given the rules; that such a state has no edge between labels outside the
-- certificate, and that the boot state is one.
use Rattle.cert_check.proofs.Common.{All, All-contains, All-nil, AsyncSend, Auth, Authority, Bool, Call, Cap, Capability, Contains, Contains-get_or, Content, Control, Edge, GrantBack, Has, Held, List, Node, Option, Pending, Receive, Reply}
use Rattle.cert_check.proofs.Common.{SavedReply, Some, Spec, State, Structural, ThreadState, Valid, boot, confers, inl, inr, irq_at, kind_confers, label_of, node_at, none_saved, nothing_pending, of_buffer, of_irq, of_mapped, of_reply, of_root}
use Rattle.cert_check.proofs.Common.{of_saved, of_space, of_table, refl, rules, sym, thread_at, true, ℕ, ◌≡◌, ◌≢◌}
use Rattle.cap_model.specs.declared.kind.Kind.TheVariants.{Frame}
use Rattle.cap_model.specs.declared.state.Mapped.{Mapped}

-- between different labels the edge is in the certificate
abbrev pub Flows : List Edge → ℕ → Authority → ℕ → Type 0
Flows cert l a m = l ≢ m → Has cert l a m

-- what a capability in a CNode of label l confers is in the certificate
abbrev pub Fine : Spec → List ℕ → List Edge → ℕ → Cap → Type 0
Fine spec labels cert l cap = (a : Authority) → confers spec cap a ≡ true → Has cert l a (label_of labels cap.object)

-- a reply from label l to label m may pass: it came by a label
pub record Through (cert : List Edge) (l : ℕ) (m : ℕ) (grants : Bool) : Type 0 where
  pub by : ℕ
  pub call : Has cert m Call by
  pub receive : Has cert l Receive by
  pub back : grants ≡ true → Has cert l GrantBack by

abbrev pub FineReply : List ℕ → List Edge → ℕ → Pending → Type 0
FineReply labels cert l reply = Through cert l (label_of labels reply.caller) reply.grants

abbrev pub FineContent : Spec → List ℕ → List Edge → ℕ → Content → Type 0
FineContent spec labels cert l (Capability cap) = Fine spec labels cert l cap
FineContent spec labels cert l (SavedReply reply) = FineReply labels cert l reply

abbrev pub FineNode : Spec → List ℕ → List Edge → ℕ → Node → Type 0
FineNode spec labels cert c node =
    All (λ (slot : ℕ × Content). FineContent spec labels cert (label_of labels c) slot.1) node.slots

pub record FineThread (labels : List ℕ) (cert : List Edge) (t : ℕ) (thread : ThreadState) : Type 0 where
  pub root : (d : ℕ) → thread.root ≡ Some d → Flows cert (label_of labels t) Control (label_of labels d)
  pub space : (d : ℕ) → thread.space ≡ Some d → Flows cert (label_of labels t) Control (label_of labels d)
  pub through : (reply : Pending) → thread.pending ≡ Some reply → FineReply labels cert (label_of labels t) reply

abbrev pub FineIrq : List ℕ → List Edge → ℕ → Option ℕ → Type 0
FineIrq labels cert d bound = (n : ℕ) → bound ≡ Some n → Flows cert (label_of labels d) AsyncSend (label_of labels n)

abbrev pub FineMapped : List ℕ → List Edge → Mapped → Type 0
FineMapped labels cert x = (a : Authority) → kind_confers Frame x.rights a ≡ true
    → Flows cert (label_of labels x.space) a (label_of labels x.frame)

-- what every state of a run keeps
pub record Safe (spec : Spec) (labels : List ℕ) (cert : List Edge) (s : State) : Type 0 where
  pub nodes : (c : ℕ) → FineNode spec labels cert c (node_at s c)
  pub threads : (t : ℕ) → FineThread labels cert t (thread_at s t)
  pub irqs : (d : ℕ) → FineIrq labels cert d (irq_at s d)
  pub mapped : All (FineMapped labels cert) s.mapped

has_at : (cert : List Edge) {l l' m m' : ℕ} {a a' : Authority} → l ≡ l' → a ≡ a' → m ≡ m' → Has cert l' a' m' → Has cert l a m
has_at cert el ea em h = rw (el, ea, em) h

flows_at : (cert : List Edge) {l l' m m' : ℕ} {a a' : Authority} → l ≡ l' → a ≡ a' → m ≡ m' → Flows cert l' a' m'
    → Flows cert l a m
flows_at cert el ea em h = rw (el, ea, em) h

module _ (spec : Spec) (labels : List ℕ) (policy cert : List Edge) (v : Valid spec labels policy cert) where
  module _ (s : State) (safe : Safe spec labels cert s) where
    content_fine : (c i : ℕ) (content : Content) → Contains (node_at s c).slots (i, content)
        → FineContent spec labels cert (label_of labels c) content
    content_fine c i content there = All-contains (λ (slot : ℕ × Content). FineContent spec labels cert (label_of labels c)
        slot.1) (node_at s c).slots (i, content) (safe.nodes c) there

    -- a reply edge comes by the call rule
    replies : (l m : ℕ) (grants : Bool) → Through cert l m grants → Flows cert l Reply m
    replies l m grants way differ = v.call m way.by l way.call way.receive (λ same. differ (sym same))

    structural_edges : (l : ℕ) (a : Authority) (m : ℕ) → Structural spec labels s l a m → Flows cert l a m
    structural_edges l a m (of_buffer e) = v.boot_structural l a m (of_buffer e)
    structural_edges l a m (of_table e) = v.boot_structural l a m (of_table e)
    structural_edges l a m (of_root e) = flows_at cert e.4 e.3 e.5 ((safe.threads e.0).root e.1 e.2)
    structural_edges l a m (of_space e) = flows_at cert e.4 e.3 e.5 ((safe.threads e.0).space e.1 e.2)
    structural_edges l a m (of_reply e) = flows_at cert e.4 e.3 e.5 (replies _ _ _ ((safe.threads e.0).through e.1 e.2))
    structural_edges l a m (of_saved e) = flows_at cert e.5 e.4 e.6 (replies _ _ _ (content_fine e.0 e.1 (SavedReply e.2) e.3))
    structural_edges l a m (of_mapped e) =
        flows_at cert e.3 refl e.4 (All-contains (FineMapped labels cert) s.mapped e.0 safe.mapped e.1 a e.2)
    structural_edges l a m (of_irq e) = flows_at cert e.4 e.3 e.5 (safe.irqs e.0 e.1 e.2)

    held_edges : (l : ℕ) (a : Authority) (m : ℕ) → Held spec labels s l a m → Has cert l a m
    held_edges l a m e = has_at cert e.5 refl e.6 (content_fine e.0 e.1 (Capability e.2) e.3 a e.4)

    -- a safe state has no edge between labels outside the certificate
    pub safe_edges : (l : ℕ) (a : Authority) (m : ℕ) → Auth spec labels s l a m → Flows cert l a m
    safe_edges l a m (inl e) differ = held_edges l a m e
    safe_edges l a m (inr e) differ = structural_edges l a m e differ

  -- what a CNode has at boot are capabilities
  boot_content : (c i : ℕ) (content : Content) → Contains (node_at (boot spec) c).slots (i, content)
      → FineContent spec labels cert (label_of labels c) content
  boot_content c i (Capability x) there = λ a conf. v.boot_held (label_of labels c) a (label_of labels x.object)
      (c, i, x, there, conf, refl, refl)
  boot_content c i (SavedReply reply) there = absurd (none_saved spec c i reply there)

  -- the boot state is safe by the first rule
  pub boot_safe : Safe spec labels cert (boot spec)
  boot_safe = record {
    nodes = λ c. λ k d within. boot_content c _ _ (Contains-get_or (node_at (boot spec) c).slots k d within);
    threads = search (rules, nothing_pending);
    irqs = λ d n e. v.boot_structural (label_of labels d) AsyncSend (label_of labels n) (of_irq (d, n, e, refl, refl, refl));
    mapped = All-nil _;
  }
