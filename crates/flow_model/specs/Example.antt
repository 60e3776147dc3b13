-- Acts of the small system of the machine's sample, in which one comes to see or to have what another one does.
use Rattle.std.specs.Prelude.{◌≡◌, ℕ, List, [], ◌∷◌}
use Rattle.flow_model.specs.Below.{boot}
use Rattle.cap_machine.specs.Sample.{sample, all}
use Rattle.cap_machine.specs.declared.step.Step.TheVariants as steps
use Rattle.flow_model.specs.Act.{Act, Attempt, step, store, load, send, signal, await, allowed, refused}
use Rattle.flow_model.specs.ActRuns.{ActRun}
use Rattle.flow_model.specs.World.{World, Sight, content, done, denied, signals, message}

-- a boot world in which each frame contains x
abbrev pub filled : ℕ → World
filled x = record { state = boot sample; contents = λ f. x; pending = λ n. []; seen = λ t. [] }

abbrev pub first_world : World
first_world = filled 0

-- thread 3 gets the space 7, and frame 8 is added to it
abbrev pub spacing : Act
spacing = allowed (step (steps.SetVspace 2 4 7))

abbrev pub mapping : Act
mapping = allowed (step (steps.Map 2 6 7 all))

-- by a message with its badge, by signals, and by a frame that comes within its reach; a load before that is refused
abbrev pub sample_acts : List Act
sample_acts =
    allowed (send 2 2 3 1 42)
    ∷ allowed (signal 2 3 5)
    ∷ allowed (signal 2 3 6)
    ∷ allowed (await 3 2)
    ∷ refused (load 3 8)
    ∷ spacing
    ∷ mapping
    ∷ allowed (store 3 8 99)
    ∷ allowed (load 3 8)
    ∷ []

-- what thread 3 has seen then, newest first
abbrev pub sample_seen : List Sight
sample_seen = content 99 ∷ done ∷ denied ∷ signals (6 ∷ 5 ∷ []) ∷ message 7 42 ∷ []

-- the acts can be done from that world, and leave this part of the last one so
abbrev pub Leaves : {A : Type 0} → World → List Act → (World → A) → A → Type 0
Leaves w acts part x = (end : World) × ActRun sample w acts end × (part end ≡ x)

-- what thread 3 does by a call of thread 2, what it does to its root, and what thread 2 attempts
abbrev pub calling : Act
calling = allowed (step (steps.Call 3 6 2 8))

abbrev pub dropping : Act
dropping = allowed (step (steps.Drop 3 1))

abbrev pub taking : Attempt
taking = step (steps.Take 2 1 1 all)

abbrev pub binding : Act
binding = allowed (step (steps.Bind 2 5 3))
