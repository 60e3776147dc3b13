-- What a bound interrupt gives: the device may signal what the handler of its interrupt may signal.
use Rattle.std.specs.Prelude.{◌≡◌, List, [], ◌∷◌, Option, Some, None}
use Rattle.arch_policy.specs.Below.{AsyncSend, Edge, IsIn, edge}

-- by the edge of a handler, and one of the edges by which labels signal
pub record IsBoundBy (handle : Edge) (signals : List Edge) (e : Edge) : Type 0 where
  pub signal : Edge
  pub listed : IsIn signal signals
  pub same : handle.from ≡ signal.from
  pub is : edge handle.to AsyncSend signal.to ≡ e

-- by one of the edges of handlers
pub record IsBound (handles : List Edge) (signals : List Edge) (e : Edge) : Type 0 where
  pub handle : Edge
  pub listed : IsIn handle handles
  pub by : IsBoundBy handle signals e

abbrev pub IsBoundAt : Option Edge → List Edge → Edge → Type 0
IsBoundAt None signals e = ⊥
IsBoundAt (Some handle) signals e = IsBoundBy handle signals e

-- the edge that a handler and one by which it signals give
abbrev pub bound_to : Edge → Option Edge → List Edge
bound_to handle None = []
bound_to handle (Some signal) = edge handle.to AsyncSend signal.to ∷ []
