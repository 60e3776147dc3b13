-- The table of steps as a function, which the code follows: what a step changes, or the first answer of the stated
-- order. That it agrees with the table and with the order of answers is proved; public contracts speak of those alone.
use Rattle.std.specs.Prelude.{ℕ, ◌==◌, Bool, true, false, ◌&&◌, ◌||◌, not, [], ◌∷◌, ◌++◌, Option, Some, None, Result, Ok, Err, slice_set}
use Rattle.cap_machine.specs.Below.{Cap, Capability, Content, Pending, SavedReply, Spec, State, both_rights, content_in, is_at, is_space_root, lessened, thread_at}
use Rattle.cap_model.specs.declared.kind.Kind.TheVariants as kinds
use Rattle.cap_machine.specs.declared.change.Change.{Change}
use Rattle.cap_machine.specs.declared.change.Change.TheVariants as changes
use Rattle.cap_machine.specs.declared.step.Step.{Step}
use Rattle.cap_machine.specs.declared.step.Step.TheVariants.{Take, Put, Grant, Call, Reply, SetCspace, SetVspace, Map, Bind, Drop, Save, ReplyTo}
use Rattle.cap_machine.specs.declared.step.Why.{Why}
use Rattle.cap_machine.specs.declared.step.Why.TheVariants.{Waiting, NoRoot, NoPending, NoGrant, NoCap, WrongKind, NoRight, SamePeer, PeerWaiting, PeerNoRoot, PeerNoCap, PeerWrongKind, PeerNoRight, OtherEndpoint}
use Rattle.cap_machine.specs.Effects.{read_write, with_root, with_space, added, dropped, called, replied, saved, released}

-- goes on with what was found, or hands the answer on
abbrev pub and_then : {A B : Type 0} → Result A Why → (A → Result B Why) → Result B Why
and_then (Ok x) rest = rest x
and_then (Err why) rest = Err why

-- what is there, or the answer
abbrev pub or_why : {A : Type 0} → Option A → Why → Result A Why
or_why None why = Err why
or_why (Some x) why = Ok x

-- goes on where the test holds
abbrev pub asking : {B : Type 0} → Bool → Why → Result B Why → Result B Why
asking false why rest = Err why
asking true why rest = rest

abbrev pub found_cap : Option Content → Why → Why → Result Cap Why
found_cap None none other = Err none
found_cap (Some (Capability cap)) none other = Ok cap
found_cap (Some (SavedReply reply)) none other = Err other

abbrev pub found_reply : Option Content → Why → Why → Result Pending Why
found_reply None none other = Err none
found_reply (Some (Capability cap)) none other = Err other
found_reply (Some (SavedReply reply)) none other = Ok reply

-- the root of t, which acts
abbrev pub acting : State → ℕ → Result ℕ Why
acting s t = asking (not (thread_at s t).waits) Waiting (or_why (thread_at s t).root NoRoot)

abbrev pub any_cap : State → ℕ → ℕ → Result Cap Why
any_cap s c i = found_cap (content_in s c i) (NoCap i) (WrongKind i)

abbrev pub own_cap : (ℕ → Bool) → State → ℕ → ℕ → Result Cap Why
own_cap kind s c i = and_then (any_cap s c i) (λ cap. asking (kind cap.object) (WrongKind i) (Ok cap))

abbrev pub own_reply : State → ℕ → ℕ → Result Pending Why
own_reply s c i = found_reply (content_in s c i) (NoCap i) (WrongKind i)

abbrev pub owed : State → ℕ → Result Pending Why
owed s t = or_why (thread_at s t).pending NoPending

abbrev pub caller_root : State → ℕ → Result ℕ Why
caller_root s caller = or_why (thread_at s caller).root PeerNoRoot

-- the root of the peer
abbrev pub peer_root : State → ℕ → ℕ → Result ℕ Why
peer_root s t u =
    asking (not (t == u)) SamePeer (asking (not (thread_at s u).waits) PeerWaiting (or_why (thread_at s u).root PeerNoRoot))

-- what the peer listens with
abbrev pub peer_cap : Spec → State → ℕ → ℕ → ℕ → Result Cap Why
peer_cap spec s d j e =
    and_then (found_cap (content_in s d j) (PeerNoCap j) (PeerWrongKind j))
    (λ cap. asking (is_at spec kinds.Endpoint cap.object) (PeerWrongKind j)
    (asking cap.rights.read (PeerNoRight j)
    (asking (cap.object == e) OtherEndpoint (Ok cap))))

abbrev pub decide : Spec → State → Step → Result Change Why
decide spec s (Take t i j r) =
    and_then (acting s t) (λ c. and_then (own_cap (is_at spec kinds.CNode) s c i) (λ to. and_then (any_cap s to.object j) (λ cap.
    Ok (changes.Add c (lessened cap r)))))
decide spec s (Put t i j r) =
    and_then (acting s t) (λ c. and_then (own_cap (is_at spec kinds.CNode) s c i) (λ to. and_then (any_cap s c j) (λ cap.
    Ok (changes.Add to.object (lessened cap r)))))
decide spec s (Grant t i u j k r) =
    and_then (acting s t) (λ c. and_then (own_cap (is_at spec kinds.Endpoint) s c i)
    (λ to. asking (to.rights.write && to.rights.grant) (NoRight i)
    (and_then (any_cap s c k) (λ cap. and_then (peer_root s t u) (λ d. and_then (peer_cap spec s d j to.object) (λ from.
    Ok (changes.Add d (lessened cap r))))))))
decide spec s (Call t i u j) =
    and_then (acting s t) (λ c. and_then (own_cap (is_at spec kinds.Endpoint) s c i)
    (λ to. asking (to.rights.write && (to.rights.grant || to.rights.reply)) (NoRight i)
    (and_then (peer_root s t u) (λ d. and_then (peer_cap spec s d j to.object) (λ from.
    Ok (changes.Call t u from.rights.grant))))))
decide spec s (Reply t None) =
    and_then (acting s t) (λ c. and_then (owed s t) (λ pending.
    Ok (changes.Reply t pending.caller)))
decide spec s (Reply t (Some copy)) =
    and_then (acting s t) (λ c. and_then (owed s t) (λ pending. asking pending.grants NoGrant
    (and_then (any_cap s c copy.0) (λ cap. and_then (caller_root s pending.caller) (λ d.
    Ok (changes.ReplyAdd t pending.caller d (lessened cap copy.1)))))))
decide spec s (SetCspace t i j) =
    and_then (acting s t) (λ c. and_then (own_cap (is_at spec kinds.Thread) s c i)
    (λ to. and_then (own_cap (is_at spec kinds.CNode) s c j) (λ cap.
    Ok (changes.Root to.object cap.object))))
decide spec s (SetVspace t i j) =
    and_then (acting s t) (λ c. and_then (own_cap (is_at spec kinds.Thread) s c i)
    (λ to. and_then (own_cap (is_space_root spec) s c j) (λ cap.
    Ok (changes.Space to.object cap.object))))
decide spec s (Map t i j r) =
    and_then (acting s t) (λ c. and_then (own_cap (is_at spec kinds.Frame) s c i)
    (λ frame. and_then (own_cap (is_space_root spec) s c j) (λ cap.
    Ok (changes.Map (record { space = cap.object; frame = frame.object; rights = both_rights frame.rights (read_write r) })))))
decide spec s (Bind t i j) =
    and_then (acting s t) (λ c. and_then (own_cap (is_at spec kinds.Irq) s c i)
    (λ irq. and_then (own_cap (is_at spec kinds.Notification) s c j) (λ cap.
    asking cap.rights.write (NoRight j) (Ok (changes.Bind irq.object cap.object)))))
decide spec s (Drop t i) =
    and_then (acting s t) (λ c. and_then (or_why (content_in s c i) (NoCap i)) (λ content.
    Ok (changes.Drop c i)))
decide spec s (Save t) =
    and_then (acting s t) (λ c. and_then (owed s t) (λ pending.
    Ok (changes.Save t c pending)))
decide spec s (ReplyTo t i None) =
    and_then (acting s t) (λ c. and_then (own_reply s c i) (λ reply.
    Ok (changes.Release c i reply.caller)))
decide spec s (ReplyTo t i (Some copy)) =
    and_then (acting s t) (λ c. and_then (own_reply s c i) (λ reply. asking reply.grants NoGrant
    (and_then (any_cap s c copy.0) (λ cap. and_then (caller_root s reply.caller) (λ d.
    Ok (changes.ReleaseAdd c i reply.caller d (lessened cap copy.1)))))))

-- the state after a change
abbrev pub changed : State → Change → State
changed s (changes.Add node cap) = added s node cap
changed s (changes.Call t u grants) = called s t u grants
changed s (changes.Reply t caller) = replied s t caller
changed s (changes.ReplyAdd t caller node cap) = added (replied s t caller) node cap
changed s (changes.Root thread node) = record s { threads = with_root s.threads thread node }
changed s (changes.Space thread root) = record s { threads = with_space s.threads thread root }
changed s (changes.Map more) = record s { mapped = s.mapped ++ more ∷ [] }
changed s (changes.Bind irq notification) = record s { irqs = slice_set s.irqs irq (Some notification) }
changed s (changes.Drop node number) = dropped s node number
changed s (changes.Save t node pending) = saved s t node pending
changed s (changes.Release node number caller) = released s node number caller
changed s (changes.ReleaseAdd node number caller to cap) = released (added s to cap) node number caller
