-- By which authority a label may change what is another's:
--
--   what a CNode has                        Control; Grant to an endpoint where it receives; Reply to who controls it
--   a thread's root, space, reply, waiting  Control; Call to an endpoint where it receives; Reply
--   what an interrupt is bound to           Handle
--   which frames were added to a space      Control
--   what a frame contains                   Write
--   what a notification has pending         AsyncSend; Receive, by which all is taken away
--   what a thread has seen                  SyncSend to an endpoint where it receives; Reply; nobody else but itself
use Rattle.std.specs.Prelude.{◌≡◌, ◌⊎◌, ℕ, ◌==◌, List}
use Rattle.flow_model.specs.Below.{AsyncSend, Call, Control, Edge, Grant, Handle, Mapped, Receive, Reply, SyncSend, Write, filter, irq_at, label_of, node_at, thread_at}
use Rattle.flow_model.specs.World.{World}
use Rattle.flow_model.specs.Lets.{Commands, Lets, Meets}

-- what was added to the space d
abbrev pub added_to : ℕ → List Mapped → List Mapped
added_to d mapped = filter (λ added. added.space == d) mapped

abbrev pub MayFill : List Edge → ℕ → ℕ → Type 0
MayFill policy l m = Lets policy l Control m ⊎ (Meets policy l Grant m ⊎ ((k : ℕ) × Lets policy l Reply k × Commands policy k m))

abbrev pub MayTurn : List Edge → ℕ → ℕ → Type 0
MayTurn policy l m = Lets policy l Control m ⊎ (Meets policy l Call m ⊎ Lets policy l Reply m)

abbrev pub MayPend : List Edge → ℕ → ℕ → Type 0
MayPend policy l m = Lets policy l AsyncSend m ⊎ Lets policy l Receive m

abbrev pub MayTell : List Edge → ℕ → ℕ → Type 0
MayTell policy l m = (l ≡ m) ⊎ (Meets policy l SyncSend m ⊎ Lets policy l Reply m)

-- what differs between the two worlds, the policy lets l change
pub record IsLet (policy : List Edge) (labels : List ℕ) (l : ℕ) (w : World) (new : World) : Type 0 where
  pub nodes : (c : ℕ) → (node_at new.state c ≡ node_at w.state c) ⊎ MayFill policy l (label_of labels c)
  pub threads : (t : ℕ) → (thread_at new.state t ≡ thread_at w.state t) ⊎ MayTurn policy l (label_of labels t)
  pub irqs : (d : ℕ) → (irq_at new.state d ≡ irq_at w.state d) ⊎ Lets policy l Handle (label_of labels d)
  pub mapped : (d : ℕ) → (added_to d new.state.mapped ≡ added_to d w.state.mapped) ⊎ Lets policy l Control (label_of labels d)
  pub contents : (f : ℕ) → (new.contents f ≡ w.contents f) ⊎ Lets policy l Write (label_of labels f)
  pub pending : (n : ℕ) → (new.pending n ≡ w.pending n) ⊎ MayPend policy l (label_of labels n)
  pub seen : (t : ℕ) → (new.seen t ≡ w.seen t) ⊎ MayTell policy l (label_of labels t)
