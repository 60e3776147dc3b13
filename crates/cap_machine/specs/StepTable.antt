-- The table of steps: what each of the twelve kinds asks of a state, and the state that it leads to.
--
-- A thread acts that doesn't wait and has a root. Numbers are those of its root where no peer or other CNode is named.
-- "A copy" has the object and the badge, and those of the rights that are in r; pending and saved replies are never
-- copied.
use Rattle.std.specs.Prelude.{◌≡◌, ◌≢◌, ℕ, Bool, true, false, ◌&&◌, ◌||◌, [], ◌∷◌, ◌++◌, Some, None, slice_set}
use Rattle.cap_machine.specs.Below.{Cap, Capability, Content, Pending, SavedReply, Spec, State, both_rights, content_in, is_at, is_space_root, lessened, thread_at}
use Rattle.cap_model.specs.declared.kind.Kind.TheVariants as kinds
use Rattle.cap_machine.specs.declared.step.Step.{Step}
use Rattle.cap_machine.specs.declared.step.Step.TheVariants.{Take, Put, Grant, Call, Reply, SetCspace, SetVspace, Map, Bind, Drop, Save, ReplyTo}
use Rattle.cap_machine.specs.Effects.{read_write, with_root, with_space, added, dropped, called, replied, saved, released}

-- t acts, from its root c
pub record Acts (s : State) (t : ℕ) (c : ℕ) : Type 0 where
  pub runs : (thread_at s t).waits ≡ false
  pub root : (thread_at s t).root ≡ Some c

-- c has at i this capability
abbrev pub Has : State → ℕ → ℕ → Cap → Type 0
Has s c i cap = content_in s c i ≡ Some (Capability cap)

-- c has at i this capability, to an object of this kind
pub record Own (kind : ℕ → Bool) (s : State) (c : ℕ) (i : ℕ) (cap : Cap) : Type 0 where
  pub there : Has s c i cap
  pub is : kind cap.object ≡ true

-- u is another thread, which doesn't wait; its root d has at j this capability with R to the endpoint e
pub record Peer (spec : Spec) (s : State) (t : ℕ) (u : ℕ) (j : ℕ) (e : ℕ) (d : ℕ) (cap : Cap) : Type 0 where
  pub other : t ≢ u
  pub acts : Acts s u d
  pub own : Own (is_at spec kinds.Endpoint) s d j cap
  pub reads : cap.rights.read ≡ true
  pub same : cap.object ≡ e

-- t has this pending reply
abbrev pub Owes : State → ℕ → Pending → Type 0
Owes s t pending = (thread_at s t).pending ≡ Some pending

abbrev pub StepTo : Spec → State → Step → State → Type 0
StepTo spec s (Take t i j r) new =
    (c : ℕ) × (to : Cap) × (cap : Cap) × Acts s t c × Own (is_at spec kinds.CNode) s c i to × Has s to.object j cap
    × (new ≡ added s c (lessened cap r))
StepTo spec s (Put t i j r) new =
    (c : ℕ) × (to : Cap) × (cap : Cap) × Acts s t c × Own (is_at spec kinds.CNode) s c i to × Has s c j cap
    × (new ≡ added s to.object (lessened cap r))
StepTo spec s (Grant t i u j k r) new =
    (c : ℕ) × (to : Cap) × (cap : Cap) × (d : ℕ) × (from : Cap) × Acts s t c × Own (is_at spec kinds.Endpoint) s c i to
    × (to.rights.write && to.rights.grant ≡ true) × Has s c k cap × Peer spec s t u j to.object d from
    × (new ≡ added s d (lessened cap r))
StepTo spec s (Call t i u j) new =
    (c : ℕ) × (to : Cap) × (d : ℕ) × (from : Cap) × Acts s t c × Own (is_at spec kinds.Endpoint) s c i to
    × (to.rights.write && (to.rights.grant || to.rights.reply) ≡ true) × Peer spec s t u j to.object d from
    × (new ≡ called s t u from.rights.grant)
StepTo spec s (Reply t None) new =
    (c : ℕ) × (pending : Pending) × Acts s t c × Owes s t pending
    × (new ≡ replied s t pending.caller)
StepTo spec s (Reply t (Some copy)) new =
    (c : ℕ) × (pending : Pending) × (cap : Cap) × (d : ℕ) × Acts s t c × Owes s t pending × (pending.grants ≡ true)
    × Has s c copy.0 cap × ((thread_at s pending.caller).root ≡ Some d)
    × (new ≡ added (replied s t pending.caller) d (lessened cap copy.1))
StepTo spec s (SetCspace t i j) new =
    (c : ℕ) × (to : Cap) × (cap : Cap) × Acts s t c × Own (is_at spec kinds.Thread) s c i to
    × Own (is_at spec kinds.CNode) s c j cap
    × (new ≡ record s { threads = with_root s.threads to.object cap.object })
StepTo spec s (SetVspace t i j) new =
    (c : ℕ) × (to : Cap) × (cap : Cap) × Acts s t c × Own (is_at spec kinds.Thread) s c i to × Own (is_space_root spec) s c j cap
    × (new ≡ record s { threads = with_space s.threads to.object cap.object })
StepTo spec s (Map t i j r) new =
    (c : ℕ) × (frame : Cap) × (cap : Cap) × Acts s t c × Own (is_at spec kinds.Frame) s c i frame
    × Own (is_space_root spec) s c j cap
    × (new ≡ record s {
      mapped = s.mapped ++ record {
        space = cap.object;
        frame = frame.object;
        rights = both_rights frame.rights (read_write r);
      } ∷ [];
    })
StepTo spec s (Bind t i j) new =
    (c : ℕ) × (irq : Cap) × (cap : Cap) × Acts s t c × Own (is_at spec kinds.Irq) s c i irq
    × Own (is_at spec kinds.Notification) s c j cap
    × (cap.rights.write ≡ true)
    × (new ≡ record s { irqs = slice_set s.irqs irq.object (Some cap.object) })
StepTo spec s (Drop t i) new =
    (c : ℕ) × (content : Content) × Acts s t c × (content_in s c i ≡ Some content)
    × (new ≡ dropped s c i)
StepTo spec s (Save t) new =
    (c : ℕ) × (pending : Pending) × Acts s t c × Owes s t pending
    × (new ≡ saved s t c pending)
StepTo spec s (ReplyTo t i None) new =
    (c : ℕ) × (reply : Pending) × Acts s t c × (content_in s c i ≡ Some (SavedReply reply))
    × (new ≡ released s c i reply.caller)
StepTo spec s (ReplyTo t i (Some copy)) new =
    (c : ℕ) × (reply : Pending) × (cap : Cap) × (d : ℕ) × Acts s t c × (content_in s c i ≡ Some (SavedReply reply))
    × (reply.grants ≡ true)
    × Has s c copy.0 cap × ((thread_at s reply.caller).root ≡ Some d)
    × (new ≡ released (added s d (lessened cap copy.1)) c i reply.caller)
