-- The table of acts: what each kind asks of a world, and the world that it leads to.
--
-- A thread acts that doesn't wait. Who sends, tells by a saved reply, signals or awaits does so by a number of its root.
-- A message brings the badge of the sender's capability. Who awaits sees all that is pending, and nothing is left. What
-- isn't possible is refused. In each case a thread sees what became of its attempt. An interrupt may fire at any time
-- while it is bound, and a device may change its frame at any time.
use Rattle.std.specs.Prelude.{◌≡◌, ℕ, Bool, true, false, [], Option, Some}
use Rattle.flow_model.specs.Below.{Cap, Read, SavedReply, Spec, State, Write, content_in, irq_at, is_at, object_at, thread_at}
use Rattle.cap_machine.specs.StepTable.{Acts, Own, Owes, Peer, StepTo}
use Rattle.cap_model.specs.declared.kind.Kind.TheVariants as kinds
use Rattle.cap_model.specs.declared.object.Object.{Object}
use Rattle.cap_model.specs.declared.object.Object.TheVariants.{Frame}
use Rattle.cap_model.specs.declared.state.Pending.{Pending}
use Rattle.flow_model.specs.Access.{Access}
use Rattle.flow_model.specs.Act.{Act, Attempt, maker, thread_of, step, store, load, send, tell, tell_saved, signal, await, allowed, refused, fire, device}
use Rattle.flow_model.specs.World.{World, done, denied, content, message, answer, signals, put, more}

-- a frame with a physical address
abbrev pub is_device : Option Object → Bool
is_device (Some (Frame (Some paddr) fill)) = true
is_device _ = false

-- t doesn't wait
abbrev pub Runs : State → ℕ → Type 0
Runs s t = (thread_at s t).waits ≡ false

abbrev pub AttemptTo : Spec → World → Attempt → World → Type 0
AttemptTo spec w (step move) new =
    (s : State) × StepTo spec w.state move s
    × (new ≡ record w { state = s; seen = more w.seen (thread_of move) done })
AttemptTo spec w (store t f x) new =
    Runs w.state t × Access spec w.state t Write f
    × (new ≡ record w { contents = put w.contents f x; seen = more w.seen t done })
AttemptTo spec w (load t f) new =
    Runs w.state t × Access spec w.state t Read f
    × (new ≡ record w { seen = more w.seen t (content (w.contents f)) })
AttemptTo spec w (send t i u j x) new =
    (c : ℕ) × (to : Cap) × (d : ℕ) × (from : Cap) × Acts w.state t c × Own (is_at spec kinds.Endpoint) w.state c i to
    × (to.rights.write ≡ true) × Peer spec w.state t u j to.object d from
    × (new ≡ record w { seen = more (more w.seen u (message to.badge x)) t done })
AttemptTo spec w (tell t x) new =
    (c : ℕ) × (reply : Pending) × Acts w.state t c × Owes w.state t reply
    × (new ≡ record w { seen = more (more w.seen reply.caller (answer x)) t done })
AttemptTo spec w (tell_saved t i x) new =
    (c : ℕ) × (reply : Pending) × Acts w.state t c × (content_in w.state c i ≡ Some (SavedReply reply))
    × (new ≡ record w { seen = more (more w.seen reply.caller (answer x)) t done })
AttemptTo spec w (signal t i x) new =
    (c : ℕ) × (to : Cap) × Acts w.state t c × Own (is_at spec kinds.Notification) w.state c i to × (to.rights.write ≡ true)
    × (new ≡ record w { pending = more w.pending to.object x; seen = more w.seen t done })
AttemptTo spec w (await t i) new =
    (c : ℕ) × (from : Cap) × Acts w.state t c × Own (is_at spec kinds.Notification) w.state c i from × (from.rights.read ≡ true)
    × (new ≡ record w { pending = put w.pending from.object []; seen = more w.seen t (signals (w.pending from.object)) })

abbrev pub ActTo : Spec → World → Act → World → Type 0
ActTo spec w (allowed attempt) new = AttemptTo spec w attempt new
ActTo spec w (refused attempt) new =
    Runs w.state (maker attempt) × ((end : World) → AttemptTo spec w attempt end → ⊥)
    × (new ≡ record w { seen = more w.seen (maker attempt) denied })
ActTo spec w (fire d x) new =
    (n : ℕ) × (irq_at w.state d ≡ Some n)
    × (new ≡ record w { pending = more w.pending n x })
ActTo spec w (device f x) new =
    (is_device (object_at spec f) ≡ true)
    × (new ≡ record w { contents = put w.contents f x })
