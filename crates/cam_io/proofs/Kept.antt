-- What reading leaves, over two calls.
use Rattle.std.proofs.Common.{rules}
use Rattle.cam_io.proofs.Common.{Contents, KeepsFiles, List, arith, ℕ}

pub keeps_twice : {F : Type 0} {told : F → Contents → Type 0} {faults : F → List ℕ → ℕ} (a b c : F) → KeepsFiles told faults a b
    → KeepsFiles told faults b c → KeepsFiles told faults a c
keeps_twice a b c x y = search (rules)
