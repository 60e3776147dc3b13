-- A thread of the parts that it is made of
use Rattle.std.proofs.Common.{rules}
use Rattle.system_spec.proofs.Common.{CNodeOf, FrameOf, List, None, Option, RW, Some, TableOf, Tables, ThreadPlace, ap, arith, buffer_cap, cap, leaf_entry, leaf_name, option_map, place, priority, refl, tcb, ℕ, ◌+◌, ◌∙◌, ◌≡◌}
use Rattle.cap_model.specs.declared.object.Tcb.{Tcb}
use Rattle.cap_model.specs.declared.cap.Cap.{Cap}

pub cnode_place : (t : Tables) (d : ℕ) → d ≡ place t (CNodeOf d)
cnode_place t d = omega arith

pub frames_same : (t : Tables) (first : ℕ) → first ≡ place t (FrameOf 0) → (o : Option ℕ)
    → option_map (λ f. cap (first + f) RW 0) o ≡ option_map (λ f. cap (place t (FrameOf f)) RW 0) o
frames_same t first e None = refl
frames_same t first e (Some f) = let at : first + f ≡ place t (FrameOf f) = omega (arith, e) in ap (λ z. Some (cap z RW 0)) at

abbrev pub tcb_of : ThreadPlace → ℕ → ℕ → List ℕ → ℕ → ℕ → Option Cap → Tcb
tcb_of x ip prio elf cspace vspace buffer = record {
  addr = x.buffer;
  ip = ip;
  sp = x.sp;
  prio = prio;
  elf = Some elf;
  cspace = Some cspace;
  vspace = Some vspace;
  buffer = buffer;
}

pub tcb_is : (t : Tables) (d : ℕ) (x : ThreadPlace) (ip prio root : ℕ) (elf : List ℕ) (buffer : Option Cap)
    → ip ≡ leaf_entry t x.leaf → prio ≡ priority t x.leaf → elf ≡ leaf_name t x.leaf → root ≡ place t (TableOf d 0)
    → buffer ≡ buffer_cap t d x.buffer → tcb_of x ip prio elf d root buffer ≡ tcb t d x
tcb_is t d x ip prio root elf buffer a b c r f = search (rules, cnode_place)
