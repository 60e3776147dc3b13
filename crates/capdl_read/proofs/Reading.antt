-- From what each round answers to what the reader answers.
use Rattle.std.proofs.Common.{rules}
use Rattle.capdl_read.proofs.Common.{Err, IsRead, IsTreeRead, List, Ok, Refused, Result, Spec, SpecTree, TextFault, false, is_long, of_tree, ℕ, ◌≡◌}
use Rattle.cam_base.specs.declared.error.Refused.TheVariants as refused
use Rattle.capdl_read.specs.Checking.{IsMeant}

pub no_tree : (bytes : List ℕ) (e : Refused TextFault) → is_long bytes ≡ false → IsTreeRead bytes (Err e) → IsRead bytes (Err e)
no_tree bytes (refused.Fault f) few is = is few
no_tree bytes refused.NoMemory few is = tt

pub understood : (bytes : List ℕ) (tree : SpecTree) (r : Result Spec (Refused TextFault)) → is_long bytes ≡ false
    → IsTreeRead bytes (Ok tree) → IsMeant tree r → IsRead bytes r
understood bytes tree (Ok spec) few is m = search (rules)
understood bytes tree (Err (refused.Fault f)) few is m = of_tree few is.0 is.1 tree is.2 m
understood bytes tree (Err refused.NoMemory) few is m = tt
