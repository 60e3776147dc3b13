-- Paths that are told to be the same are.
use Rattle.std.proofs.Common.{◌≡◌, true, refl}
use Rattle.std.proofs.lemmas.Slice.Eq.{bytes_eq-Decides, slice_eq-Decides}
use Rattle.adl_meaning.specs.Paths.{Path, same_path}

pub same_path-true : (p q : Path) → same_path p q ≡ true → p ≡ q
same_path-true p q e = (slice_eq-Decides bytes_eq-Decides p q (same_path p q) refl).0 e
