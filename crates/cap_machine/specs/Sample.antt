-- A small system, steps of it, and their answers: each answer once, and each kind of step where it is legal.
use Rattle.std.specs.Prelude.{ℕ, true, false, List, [], ◌∷◌, Option, Some, None, Result, Ok, Err, codes}
use Rattle.cap_machine.specs.Below.{CNode, Endpoint, Frame, Irq, Notification, Object, Pages, Rights, Spec, State, Thread, boot}
use Rattle.cap_model.specs.Example.{rights, plain, cap, named}
use Rattle.cap_model.specs.declared.level.Arch.TheVariants.{Arm11}
use Rattle.cap_model.specs.declared.level.Level.TheVariants.{Directory}
use Rattle.cap_machine.specs.declared.change.Change.{Change}
use Rattle.cap_machine.specs.declared.step.Step.{Step}
use Rattle.cap_machine.specs.declared.step.Step.TheVariants as steps
use Rattle.cap_machine.specs.declared.step.Why.{Why}
use Rattle.cap_machine.specs.declared.step.Why.TheVariants.{Waiting, NoRoot, NoPending, NoGrant, NoCap, WrongKind, NoRight, SamePeer, PeerWaiting, PeerNoRoot, PeerNoCap, PeerWrongKind, PeerNoRight, OtherEndpoint}
use Rattle.cap_machine.specs.Checks.{checks, first_failing}
use Rattle.cap_machine.specs.Decide.{decide, changed}

abbrev pub tcb : Option ℕ → Object
tcb cspace = Thread (record { addr = 0; ip = 0; sp = 0; prio = 0; elf = None; cspace = cspace; vspace = None; buffer = None })

abbrev pub all : Rights
all = rights true true true true

-- CNodes 0 and 1, threads 2 (in 0), 3 (in 1) and 4 (in none), endpoints 5 and 10, a notification 6, a space root 7, a frame 8, an
-- interrupt 9
abbrev pub sample : Spec
sample = record {
  arch = Arm11;
  entries =
      named (codes "ca") (CNode 4 (
      (1, plain 1)
      ∷ (2, cap 5 (rights false true true true) 7)
      ∷ (3, cap 6 (rights false true false false) 0)
      ∷ (4, plain 3)
      ∷ (5, plain 9)
      ∷ (6, cap 8 (rights true true false false) 0)
      ∷ (7, plain 7)
      ∷ (8, cap 5 (rights true false false false) 0)
      ∷ (9, cap 6 (rights true false false false) 0)
      ∷ []))
      ∷ named (codes "cb") (CNode 3 (
      (1, cap 5 (rights true false true false) 0)
      ∷ (2, cap 6 (rights true false false false) 0)
      ∷ (3, cap 5 (rights false true false false) 0)
      ∷ (4, cap 10 (rights true false false false) 0)
      ∷ (5, cap 5 (rights true false false false) 0)
      ∷ (6, cap 5 (rights false true false true) 0)
      ∷ []))
      ∷ named (codes "ta") (tcb (Some 0))
      ∷ named (codes "tb") (tcb (Some 1))
      ∷ named (codes "tc") (tcb None)
      ∷ named (codes "e") Endpoint
      ∷ named (codes "n") Notification
      ∷ named (codes "pd") (Pages Directory [])
      ∷ named (codes "f") (Frame None None)
      ∷ named (codes "i") (Irq None)
      ∷ named (codes "o") Endpoint
      ∷ [];
  irqs = [];
}

abbrev pub stepped : State → Result Change Why → State
stepped s (Ok change) = changed s change
stepped s (Err why) = s

abbrev pub after : State → List Step → State
after s [] = s
after s (step ∷ more) = after (stepped s (decide sample s step)) more

-- a step behind others, and its answer, None where it is legal
pub record Row : Type 0 where
  pub before : List Step
  pub step : Step
  pub answer : Option Why

abbrev pub row : List Step → Step → Option Why → Row
row before step answer = record { before = before; step = step; answer = answer }

abbrev pub called : List Step
called = steps.Call 2 2 3 1 ∷ []

abbrev pub saved_one : List Step
saved_one = steps.Call 2 2 3 1 ∷ steps.Save 3 ∷ []

abbrev pub rows : List Row
rows =
    row [] (steps.Take 2 1 1 all) None
    ∷ row [] (steps.Put 2 1 2 all) None
    ∷ row [] (steps.Grant 2 2 3 1 3 all) None
    ∷ row [] (steps.Call 2 2 3 1) None
    ∷ row called (steps.Reply 3 None) None
    ∷ row called (steps.Reply 3 (Some (1, all))) None
    ∷ row [] (steps.SetCspace 2 4 1) None
    ∷ row [] (steps.SetVspace 2 4 7) None
    ∷ row [] (steps.Map 2 6 7 all) None
    ∷ row [] (steps.Bind 2 5 3) None
    ∷ row [] (steps.Drop 2 1) None
    ∷ row called (steps.Save 3) None
    ∷ row saved_one (steps.ReplyTo 3 8 None) None
    ∷ row saved_one (steps.ReplyTo 3 8 (Some (1, all))) None
    ∷ row saved_one (steps.Drop 3 8) None
    ∷ row called (steps.Drop 2 1) (Some Waiting)
    ∷ row [] (steps.Drop 4 1) (Some NoRoot)
    ∷ row [] (steps.Reply 3 None) (Some NoPending)
    ∷ row (steps.Call 2 2 3 5 ∷ []) (steps.Reply 3 (Some (1, all))) (Some NoGrant)
    ∷ row [] (steps.Take 2 1 7 all) (Some (NoCap 7))
    ∷ row [] (steps.Take 2 2 1 all) (Some (WrongKind 2))
    ∷ row [] (steps.Map 2 7 6 all) (Some (WrongKind 7))
    ∷ row [] (steps.Call 2 8 3 1) (Some (NoRight 8))
    ∷ row [] (steps.Bind 2 5 9) (Some (NoRight 9))
    ∷ row [] (steps.Call 2 2 2 1) (Some SamePeer)
    ∷ row (steps.Call 3 6 2 8 ∷ []) (steps.Call 2 2 3 1) (Some PeerWaiting)
    ∷ row [] (steps.Call 2 2 4 1) (Some PeerNoRoot)
    ∷ row [] (steps.Call 2 2 3 7) (Some (PeerNoCap 7))
    ∷ row [] (steps.Call 2 2 3 2) (Some (PeerWrongKind 2))
    ∷ row [] (steps.Call 2 2 3 3) (Some (PeerNoRight 3))
    ∷ row [] (steps.Call 2 2 3 4) (Some OtherEndpoint)
    -- numbers are not used again, and saved replies are no capabilities
    ∷ row (steps.Call 2 2 3 1 ∷ steps.Save 3 ∷ steps.ReplyTo 3 8 None ∷ []) (steps.ReplyTo 3 8 None) (Some (NoCap 8))
    ∷ row saved_one (steps.ReplyTo 3 1 None) (Some (WrongKind 1))
    ∷ row saved_one (steps.ReplyTo 3 8 (Some (8, all))) (Some (WrongKind 8))
    ∷ row saved_one (steps.Call 3 8 2 8) (Some (WrongKind 8))
    ∷ row (steps.Call 3 6 2 8 ∷ steps.Save 2 ∷ []) (steps.Take 2 1 9 all) (Some (NoCap 9))
    ∷ row (steps.SetCspace 2 4 1 ∷ steps.Call 3 6 2 8 ∷ []) (steps.Drop 3 7) (Some Waiting)
    ∷ []

abbrev pub answer_of : Row → Option Why
answer_of r = first_failing (checks sample (after (boot sample) r.before) r.step)
