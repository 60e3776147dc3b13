-- The states that runs of steps, and so acts, lead to from boot.
use Rattle.flow_model.proofs.Common.{Act, ActRun, ActTo, Attempt, AttemptTo, IsReached, List, Spec, State, StepTo, World, [], allowed, await, boot, device, fire, load, refl, refused, rules, send, signal, step, store, subst, tell, tell_saved, ◌++◌, ◌∷◌}
use Rattle.cap_machine.specs.Runs.{Run}
use Rattle.cap_machine.specs.declared.step.Step.{Step}

-- some run leads from the boot state to this state
pub record Reached (spec : Spec) (s : State) : Type 0 where
  pub steps : List Step
  pub run : Run spec (boot spec) steps s

one_more : (spec : Spec) (steps : List Step) (s mid new : State) (move : Step) → Run spec s steps mid → StepTo spec mid move new
    → Run spec s (steps ++ move ∷ []) new
one_more spec [] s mid new move run next = (new, subst (λ (x : State). StepTo spec x move new) run next, refl)
one_more spec (x ∷ xs) s mid new move (y, first, rest) next = (y, first, one_more spec xs y mid new move rest next)

pub reached_next : (spec : Spec) (s new : State) (move : Step) → Reached spec s → StepTo spec s move new → Reached spec new
reached_next spec s new move reached next = search (rules, one_more)

pub steps_reached : (spec : Spec) (steps : List Step) (s new : State) → Reached spec s → Run spec s steps new → Reached spec new
steps_reached spec [] s new reached e = rw e reached
steps_reached spec (move ∷ steps) s new reached (mid, first, rest) =
    steps_reached spec steps mid new (reached_next spec s mid move reached first) rest

-- an attempt takes one step of the capability system, or none
attempt_reached : (spec : Spec) (w new : World) (attempt : Attempt) → Reached spec w.state → AttemptTo spec w attempt new
    → Reached spec new.state
attempt_reached spec w new (step move) reached (s, does, e) = rw e (reached_next spec w.state s move reached does)
attempt_reached spec w new (store t f x) reached (runs, may, e) = rw e reached
attempt_reached spec w new (load t f) reached (runs, may, e) = rw e reached
attempt_reached spec w new (send t i u j x) reached (c, to, d, from, acts, own, may, peer, e) = rw e reached
attempt_reached spec w new (tell t x) reached (c, reply, acts, owes, e) = rw e reached
attempt_reached spec w new (tell_saved t i x) reached (c, reply, acts, there, e) = rw e reached
attempt_reached spec w new (signal t i x) reached (c, to, acts, own, may, e) = rw e reached
attempt_reached spec w new (await t i) reached (c, from, acts, own, may, e) = rw e reached

pub act_reached : (spec : Spec) (w new : World) (act : Act) → Reached spec w.state → ActTo spec w act new → Reached spec new.state
act_reached spec w new (allowed attempt) reached does = attempt_reached spec w new attempt reached does
act_reached spec w new (refused attempt) reached (runs, never, e) = rw e reached
act_reached spec w new (fire d x) reached (n, bound, e) = rw e reached
act_reached spec w new (device f x) reached (is, e) = rw e reached

acts_reached : (spec : Spec) (acts : List Act) (w new : World) → Reached spec w.state → ActRun spec w acts new
    → Reached spec new.state
acts_reached spec [] w new reached e = rw e reached
acts_reached spec (act ∷ acts) w new reached (mid, does, rest) =
    acts_reached spec acts mid new (act_reached spec w mid act reached does) rest

pub world_reached : (spec : Spec) (w : World) → IsReached spec w → Reached spec w.state
world_reached spec w is = acts_reached spec is.acts is.first w (record { steps = []; run = is.boots }) is.run
