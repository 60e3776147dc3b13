-- The threads of a spec by name.
use Rattle.std.specs.Prelude.{ℕ, Bool, true, false, ◌&&◌, List, Option}
use Rattle.step_text.specs.Below.{Spec, bytes_eq, position}
use Rattle.cap_model.specs.declared.object.Object.{Object}
use Rattle.cap_model.specs.declared.object.Object.TheVariants.{Thread}

abbrev pub is_thread : Object → Bool
is_thread (Thread tcb) = true
is_thread _ = false

-- the place of the thread of that name
abbrev pub thread_named : Spec → List ℕ → Option ℕ
thread_named spec name = position (λ entry. is_thread entry.object && bytes_eq entry.name name) spec.entries
