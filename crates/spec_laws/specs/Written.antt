-- What laid-out tables keep whose spec can be written and read back, besides being fit and within the limits: numbers of 64
-- bits, and names of programs. Tables of a source without faults keep it.
use Rattle.std.specs.Prelude.{◌≡◌, ◌<◌, ◌^◌, ℕ, true, Some, slice_get}
use Rattle.spec_laws.specs.Below.{Fill, FlatConnection, FrameInfo, IsIn, Tables, ThreadPlace, irq_number, is_name, leaf_entry, leaf_name, settled_badge, threads_at}

pub record IsThreadWritten (t : Tables) (x : ThreadPlace) : Type 0 where
  pub buffer : x.buffer < 2 ^ 64
  pub stack : x.sp < 2 ^ 64
  pub entry : leaf_entry t x.leaf < 2 ^ 64
  pub name : is_name (leaf_name t x.leaf) ≡ true

pub record IsFillWritten (fill : Fill) : Type 0 where
  pub file : is_name fill.file ≡ true
  pub at : fill.at < 2 ^ 64

pub record IsFrameWritten (f : FrameInfo) : Type 0 where
  pub paddr : (at : ℕ) → f.paddr ≡ Some at → at < 2 ^ 64
  pub fill : (fill : Fill) → f.fill ≡ Some fill → IsFillWritten fill

pub record IsWritten (t : Tables) : Type 0 where
  pub badges : (k n : ℕ) → settled_badge t.settled k n < 2 ^ 64
  pub numbers : (k : ℕ) (c : FlatConnection) → slice_get t.flat.connections k ≡ Some c → irq_number t.settled k c < 2 ^ 64
  pub threads : (d : ℕ) (x : ThreadPlace) → IsIn x (threads_at t d) → IsThreadWritten t x
  pub frames : (f : FrameInfo) → IsIn f t.spaces.frames → IsFrameWritten f
