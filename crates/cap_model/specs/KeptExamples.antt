-- Specs on both sides of each condition.
use Rattle.std.specs.Prelude.{ℕ, ◌+◌, true, false, List, [], ◌∷◌, Option, Some, None, codes}
use Rattle.cap_model.specs.declared.cap.Cap.{Cap}
use Rattle.cap_model.specs.declared.level.Arch.{Arch}
use Rattle.cap_model.specs.declared.level.Arch.TheVariants.{Arm11, Aarch64}
use Rattle.cap_model.specs.declared.level.Level.TheVariants.{Global, Upper, Directory, Table}
use Rattle.cap_model.specs.declared.object.Object.{Object}
use Rattle.cap_model.specs.declared.object.Object.TheVariants.{Endpoint, Notification, CNode, Thread, Frame, Pages, Irq}
use Rattle.cap_model.specs.declared.rights.Rights.{Rights}
use Rattle.cap_model.specs.declared.spec.Entry.{Entry}
use Rattle.cap_model.specs.declared.spec.Spec.{Spec}
use Rattle.cap_model.specs.Example.{rights, plain, cap, named}

-- objects named a, b, c and so on
abbrev pub lettered : ℕ → List Object → List Entry
lettered letter [] = []
lettered letter (o ∷ os) = named (letter ∷ []) o ∷ lettered (letter + 1) os

abbrev pub spec_of : Arch → List Object → Spec
spec_of arch objects = record { arch = arch; entries = lettered 97 objects; irqs = [] }

-- a capability in slot 1 of a CNode, to the object behind it
abbrev pub held : Object → Rights → ℕ → Spec
held object r badge = spec_of Arm11 (CNode 1 ((1, cap 1 r badge) ∷ []) ∷ object ∷ [])

-- a thread in front of one object
abbrev pub thread_at : Arch → ℕ → Option ℕ → Option ℕ → Option Cap → Object → Spec
thread_at arch prio cspace vspace buffer object =
    spec_of arch (Thread (record {
      addr = 0;
      ip = 0;
      sp = 0;
      prio = prio;
      elf = None;
      cspace = cspace;
      vspace = vspace;
      buffer = buffer;
    }) ∷ object ∷ [])

abbrev pub filled : ℕ → ℕ → Spec
filled offset length =
    spec_of Arm11 (Frame None (Some (record { offset = offset; length = length; file = codes "f"; at = 0 })) ∷ [])

-- a page table in front of one object
abbrev pub table_over : Arch → Object → Object → Spec
table_over arch table object = spec_of arch (table ∷ object ∷ [])

-- two interrupts, a notification and an endpoint, with these lines
abbrev pub lined : List (ℕ × ℕ) → Spec
lined lines = record (spec_of Arm11 (Irq None ∷ Irq (Some 2) ∷ Notification ∷ Endpoint ∷ [])) { irqs = lines }

abbrev pub none : Rights
none = rights false false false false

abbrev pub frame : Object
frame = Frame None None

abbrev pub kept_ones : List Spec
kept_ones =
    spec_of Arm11 []
    ∷ spec_of Arm11 (CNode 16 ((0, plain 0) ∷ (65535, plain 0) ∷ []) ∷ [])
    ∷ held Endpoint (rights true true true true) 7
    ∷ held Notification (rights true true false false) 7
    ∷ held frame (rights true true false false) 0
    ∷ held (Pages Directory []) none 0
    ∷ thread_at Arm11 255 (Some 1) None None (CNode 1 [])
    ∷ thread_at Arm11 0 None (Some 1) None (Pages Directory [])
    ∷ thread_at Aarch64 0 None (Some 1) None (Pages Global [])
    ∷ thread_at Arm11 0 None None (Some (cap 1 (rights true true false false) 0)) frame
    ∷ spec_of Arm11 (Frame (Some 8192) None ∷ [])
    ∷ filled 4095 1
    ∷ filled 0 4096
    ∷ table_over Arm11 (Pages Directory ((4095, plain 1) ∷ [])) (Pages Table [])
    ∷ table_over Arm11 (Pages Table ((255, cap 1 (rights true false false false) 0) ∷ [])) frame
    ∷ table_over Aarch64 (Pages Global ((511, plain 1) ∷ [])) (Pages Upper [])
    ∷ table_over Aarch64 (Pages Upper ((511, plain 1) ∷ [])) (Pages Directory [])
    ∷ lined ((5, 1) ∷ (37, 0) ∷ [])
    ∷ []

abbrev pub faulty_ones : List Spec
faulty_ones =
    record (spec_of Arm11 []) {
      entries = named (codes "a") Endpoint ∷ named (codes "b") Endpoint
          ∷ named (codes "a") Endpoint ∷ [];
    }
    ∷ spec_of Arm11 (CNode 0 [] ∷ [])
    ∷ spec_of Arm11 (CNode 17 [] ∷ [])
    ∷ spec_of Arm11 (CNode 1 ((2, plain 0) ∷ []) ∷ [])
    ∷ spec_of Arm11 (CNode 1 ((1, plain 0) ∷ (1, plain 0) ∷ []) ∷ [])
    ∷ spec_of Arm11 (CNode 1 ((1, plain 0) ∷ (0, plain 0) ∷ []) ∷ [])
    ∷ spec_of Arm11 (CNode 1 ((1, plain 1) ∷ []) ∷ [])
    ∷ held Notification (rights true false true false) 0
    ∷ held frame (rights true false false true) 0
    ∷ held frame (rights true false false false) 1
    ∷ held (CNode 1 []) (rights true false false false) 0
    ∷ held (Irq None) none 1
    ∷ thread_at Arm11 256 None None None frame
    ∷ thread_at Arm11 0 (Some 1) None None frame
    ∷ thread_at Arm11 0 (Some 2) None None frame
    ∷ thread_at Arm11 0 None (Some 1) None (Pages Table [])
    ∷ thread_at Aarch64 0 None (Some 1) None (Pages Directory [])
    ∷ thread_at Arm11 0 None None (Some (plain 1)) Endpoint
    ∷ thread_at Arm11 0 None None (Some (cap 1 none 1)) frame
    ∷ thread_at Arm11 0 None None (Some (cap 1 (rights true true true false) 0)) frame
    ∷ spec_of Arm11 (Frame (Some 4095) None ∷ [])
    ∷ filled 0 0
    ∷ filled 4095 2
    ∷ table_over Arm11 (Pages Directory ((4096, plain 1) ∷ [])) (Pages Table [])
    ∷ table_over Arm11 (Pages Table ((256, plain 1) ∷ [])) frame
    ∷ table_over Aarch64 (Pages Table ((512, plain 1) ∷ [])) frame
    ∷ table_over Arm11 (Pages Directory ((0, plain 1) ∷ [])) frame
    ∷ table_over Aarch64 (Pages Global ((0, plain 1) ∷ [])) (Pages Directory [])
    ∷ table_over Aarch64 (Pages Upper ((0, plain 1) ∷ [])) (Pages Table [])
    ∷ spec_of Arm11 (Pages Global [] ∷ [])
    ∷ spec_of Arm11 (Pages Upper [] ∷ [])
    ∷ spec_of Arm11 (Irq (Some 1) ∷ Endpoint ∷ [])
    ∷ lined ((37, 3) ∷ [])
    ∷ lined ((37, 0) ∷ (37, 1) ∷ [])
    ∷ lined ((37, 0) ∷ (5, 1) ∷ [])
    ∷ lined ((5, 1) ∷ (37, 1) ∷ [])
    ∷ []
