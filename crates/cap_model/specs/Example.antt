-- Three small systems with their texts, line by line as a writer writes them.
use Rattle.std.specs.Prelude.{ℕ, Bool, true, false, List, [], ◌∷◌, Some, None, codes}
use Rattle.std.specs.List.{flat_map}
use Rattle.cap_model.specs.declared.cap.Cap.{Cap}
use Rattle.cap_model.specs.declared.level.Arch.TheVariants.{Arm11, Aarch64}
use Rattle.cap_model.specs.declared.level.Level.TheVariants.{Global, Upper, Directory, Table}
use Rattle.cap_model.specs.declared.object.Object.{Object}
use Rattle.cap_model.specs.declared.object.Object.TheVariants.{Endpoint, Notification, CNode, Thread, Frame, Pages, Irq}
use Rattle.cap_model.specs.declared.rights.Rights.{Rights}
use Rattle.cap_model.specs.declared.spec.Entry.{Entry}
use Rattle.cap_model.specs.declared.spec.Spec.{Spec}

abbrev pub rights : Bool → Bool → Bool → Bool → Rights
rights r w g p = record { read = r; write = w; grant = g; reply = p }

abbrev pub plain : ℕ → Cap
plain object = record { object = object; rights = rights false false false false; badge = 0 }

abbrev pub cap : ℕ → Rights → ℕ → Cap
cap object r badge = record { object = object; rights = r; badge = badge }

abbrev pub named : List ℕ → Object → Entry
named name object = record { name = name; object = object }

abbrev pub thread : List ℕ → ℕ → Object
thread elf cspace = Thread (record {
  addr = 0;
  ip = 0;
  sp = 0;
  prio = 254;
  elf = Some elf;
  cspace = Some cspace;
  vspace = None;
  buffer = None;
})

abbrev pub lines : List (List ℕ) → List ℕ
lines = flat_map (λ line. line)

-- a client that calls a server
abbrev pub echo : Spec
echo = record {
  arch = Arm11;
  entries =
      named (codes "cnode_0") (CNode 1 ((1, cap 5 (rights false true false true) 1) ∷ []))
      ∷ named (codes "cnode_1") (CNode 1 ((1, cap 5 (rights true false false false) 0) ∷ []))
      ∷ named (codes "tcb_0") (thread (codes "Client") 0)
      ∷ named (codes "tcb_1") (thread (codes "Server") 1)
      ∷ named (codes "tcb_2") (thread (codes "Server") 1)
      ∷ named (codes "ep_0") Endpoint
      ∷ [];
  irqs = [];
}

abbrev pub echo_text : List ℕ
echo_text = lines (
    codes "arch arm11\n"
    ∷ codes "\n"
    ∷ codes "objects {\n"
    ∷ codes "cnode_0 = cnode (1 bits)\n"
    ∷ codes "cnode_1 = cnode (1 bits)\n"
    ∷ codes "tcb_0 = tcb (addr: 0x0, ip: 0x0, sp: 0x0, elf: \"Client\", prio: 254)\n"
    ∷ codes "tcb_1 = tcb (addr: 0x0, ip: 0x0, sp: 0x0, elf: \"Server\", prio: 254)\n"
    ∷ codes "tcb_2 = tcb (addr: 0x0, ip: 0x0, sp: 0x0, elf: \"Server\", prio: 254)\n"
    ∷ codes "ep_0 = ep\n"
    ∷ codes "}\n"
    ∷ codes "\n"
    ∷ codes "caps {\n"
    ∷ codes "cnode_0 {\n"
    ∷ codes "0x1: ep_0 (WP, badge: 1)\n"
    ∷ codes "}\n"
    ∷ codes "cnode_1 {\n"
    ∷ codes "0x1: ep_0 (R)\n"
    ∷ codes "}\n"
    ∷ codes "tcb_0 {\n"
    ∷ codes "cspace: cnode_0\n"
    ∷ codes "}\n"
    ∷ codes "tcb_1 {\n"
    ∷ codes "cspace: cnode_1\n"
    ∷ codes "}\n"
    ∷ codes "tcb_2 {\n"
    ∷ codes "cspace: cnode_1\n"
    ∷ codes "}\n"
    ∷ codes "}\n"
    ∷ codes "\n"
    ∷ codes "irq maps {\n"
    ∷ codes "}\n"
    ∷ [])

-- a driver with an interrupt and a mutex
abbrev pub driver : Spec
driver = record {
  arch = Arm11;
  entries =
      named (codes "cnode_0") (CNode 2 ((1, cap 2 (rights true false false false) 0) ∷ (2, plain 4)
      ∷ (3, cap 3 (rights true true false false) 0) ∷ []))
      ∷ named (codes "tcb_0") (thread (codes "Driver") 0)
      ∷ named (codes "ntfn_0") Notification
      ∷ named (codes "lock_0") Notification
      ∷ named (codes "irq_0") (Irq (Some 2))
      ∷ [];
  irqs = (37, 4) ∷ [];
}

abbrev pub driver_text : List ℕ
driver_text = lines (
    codes "arch arm11\n"
    ∷ codes "\n"
    ∷ codes "objects {\n"
    ∷ codes "cnode_0 = cnode (2 bits)\n"
    ∷ codes "tcb_0 = tcb (addr: 0x0, ip: 0x0, sp: 0x0, elf: \"Driver\", prio: 254)\n"
    ∷ codes "ntfn_0 = notification\n"
    ∷ codes "lock_0 = notification\n"
    ∷ codes "irq_0 = irq\n"
    ∷ codes "}\n"
    ∷ codes "\n"
    ∷ codes "caps {\n"
    ∷ codes "cnode_0 {\n"
    ∷ codes "0x1: ntfn_0 (R)\n"
    ∷ codes "0x2: irq_0\n"
    ∷ codes "0x3: lock_0 (RW)\n"
    ∷ codes "}\n"
    ∷ codes "tcb_0 {\n"
    ∷ codes "cspace: cnode_0\n"
    ∷ codes "}\n"
    ∷ codes "irq_0 {\n"
    ∷ codes "0x0: ntfn_0\n"
    ∷ codes "}\n"
    ∷ codes "}\n"
    ∷ codes "\n"
    ∷ codes "irq maps {\n"
    ∷ codes "37: irq_0\n"
    ∷ codes "}\n"
    ∷ [])

-- a space of four levels, with an image's page, a stack, an IPC buffer and a device's page
abbrev pub space : Spec
space = record {
  arch = Aarch64;
  entries =
      named (codes "cnode_0") (CNode 1 [])
      ∷ named (codes "tcb_0") (Thread (record {
        addr = 0x8000003000;
        ip = 0x10000;
        sp = 0x8000002000;
        prio = 7;
        elf = None;
        cspace = None;
        vspace = Some 2;
        buffer = Some (cap 8 (rights true true false false) 0);
      }))
      ∷ named (codes "pgd_0") (Pages Global ((1, plain 3) ∷ []))
      ∷ named (codes "pud_0") (Pages Upper ((0, plain 4) ∷ []))
      ∷ named (codes "pd_0") (Pages Directory ((511, plain 5) ∷ []))
      ∷ named (codes "pt_0") (Pages Table ((1, cap 6 (rights true false false false) 0)
      ∷ (3, cap 8 (rights true true false false) 0) ∷ (16, cap 7 (rights true true false false) 0) ∷ []))
      ∷ named (codes "frame_0") (Frame None (Some (record { offset = 0; length = 2048; file = codes "Client"; at = 0x1000 })))
      ∷ named (codes "frame_1") (Frame (Some 0x101f1000) None)
      ∷ named (codes "frame_2") (Frame None None)
      ∷ [];
  irqs = [];
}

abbrev pub space_text : List ℕ
space_text = lines (
    codes "arch aarch64\n"
    ∷ codes "\n"
    ∷ codes "objects {\n"
    ∷ codes "cnode_0 = cnode (1 bits)\n"
    ∷ codes "tcb_0 = tcb (addr: 0x8000003000, ip: 0x10000, sp: 0x8000002000, prio: 7)\n"
    ∷ codes "pgd_0 = pgd\n"
    ∷ codes "pud_0 = pud\n"
    ∷ codes "pd_0 = pd\n"
    ∷ codes "pt_0 = pt\n"
    ∷ codes "frame_0 = frame (4k, fill: [{0 2048 CDL_FrameFill_FileData \"Client\" 0x1000}])\n"
    ∷ codes "frame_1 = frame (4k, paddr: 0x101f1000)\n"
    ∷ codes "frame_2 = frame (4k)\n"
    ∷ codes "}\n"
    ∷ codes "\n"
    ∷ codes "caps {\n"
    ∷ codes "tcb_0 {\n"
    ∷ codes "vspace: pgd_0\n"
    ∷ codes "ipc_buffer_slot: frame_2 (RW)\n"
    ∷ codes "}\n"
    ∷ codes "pgd_0 {\n"
    ∷ codes "0x1: pud_0\n"
    ∷ codes "}\n"
    ∷ codes "pud_0 {\n"
    ∷ codes "0x0: pd_0\n"
    ∷ codes "}\n"
    ∷ codes "pd_0 {\n"
    ∷ codes "0x1ff: pt_0\n"
    ∷ codes "}\n"
    ∷ codes "pt_0 {\n"
    ∷ codes "0x1: frame_0 (R)\n"
    ∷ codes "0x3: frame_2 (RW)\n"
    ∷ codes "0x10: frame_1 (RW)\n"
    ∷ codes "}\n"
    ∷ codes "}\n"
    ∷ codes "\n"
    ∷ codes "irq maps {\n"
    ∷ codes "}\n"
    ∷ [])
