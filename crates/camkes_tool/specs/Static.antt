-- A state whose memory is that of boot: no frame was added to a space, each thread has its root and its space, and no CNode has
-- a capability that it hadn't. What it had may be gone.
use Rattle.std.specs.Prelude.{◌≡◌, ℕ, []}
use Rattle.camkes_tool.specs.Below.{Contains, Spec}
use Rattle.cap_model.specs.State.{State, boot, node_at, thread_at}
use Rattle.cap_model.specs.declared.cap.Cap.{Cap}
use Rattle.cap_model.specs.declared.state.Content.TheVariants.{Capability}

pub record IsStatic (spec : Spec) (s : State) : Type 0 where
  pub mapped : s.mapped ≡ []
  pub roots : (t : ℕ) → (thread_at s t).root ≡ (thread_at (boot spec) t).root
  pub spaces : (t : ℕ) → (thread_at s t).space ≡ (thread_at (boot spec) t).space
  pub caps : (c i : ℕ) (cap : Cap) → Contains (node_at s c).slots (i, Capability cap)
      → Contains (node_at (boot spec) c).slots (i, Capability cap)
