-- Fronts of a file, as a reader of the whole has them.
use Rattle.std.proofs.Common.{rules}
use Rattle.cam_io.proofs.Common.{Bytes, IsGot, List, None, Option, Some, [], ap, arith, drop, length, length-append, length-take, subst, sym, take, take-add, ℕ, ◌++◌, ◌+◌, ◌∙◌, ◌≡◌, ◌≤◌}
use Rattle.std.proofs.lemmas.List.{length-drop}

-- these bytes stand at the file's beginning, and none where there is no file
abbrev pub IsFront : Option (List ℕ) → List ℕ → Type 0
IsFront None front = front ≡ []
IsFront (Some bytes) front = (length front ≤ length bytes) × (front ≡ take (length front) bytes)

-- with what a read behind it gave
pub front_more : (file : Option (List ℕ)) (front buffer : List ℕ) (taken : ℕ) → IsFront file front
    → IsGot file (length front) buffer (Bytes taken) → IsFront file (front ++ take taken buffer)
front_more None front buffer taken h g = let e = g.1 in cc
front_more (Some bytes) front buffer taken h g = search (rules, length-append, length-take, length-drop, take-add)
