-- The least certificate: the edges that lie in every set of edges for which the certificate rules hold, all but the one
-- that compares it with a policy.
use Rattle.std.specs.Prelude.{◌≢◌, ◌<◌, ℕ, List, length}
use Rattle.cap_model.specs.Tables.{Has, IsSorted}
use Rattle.authorities.specs.declared.authority.Authority.{Authority}
use Rattle.authorities.specs.declared.authority.Authority.TheVariants.{Receive, AsyncSend, Grant, Control, Call, Reply, GrantBack, Handle}
use Rattle.cap_model.specs.declared.edge.Edge.{Edge}
use Rattle.cap_model.specs.Auth.{Held, Structural}
use Rattle.cap_model.specs.State.{boot}
use Rattle.cap_model.specs.declared.spec.Spec.{Spec}
use Rattle.least_cert.specs.declared.closing.CloseError.{CloseError}
use Rattle.least_cert.specs.declared.closing.CloseError.TheVariants.{Limit, NoMemory}

-- the rules hold for "there is an edge from l to m with the authority a"
pub record KeepsRules (spec : Spec) (labels : List ℕ) (Is : ℕ → Authority → ℕ → Type 0) : Type 0 where
  pub boot_held : (l : ℕ) (a : Authority) (m : ℕ) → Held spec labels (boot spec) l a m → Is l a m
  pub boot_structural : (l : ℕ) (a : Authority) (m : ℕ) → Structural spec labels (boot spec) l a m → l ≢ m → Is l a m
  pub control_out : (l m : ℕ) (a : Authority) (x : ℕ) → Is l Control m → a ≢ Reply → Is l a x → Is m a x
  pub control_back : (l m : ℕ) (a : Authority) (x : ℕ) → Is l Control m → a ≢ Reply → Is m a x → Is l a x
  pub grant : (s e r : ℕ) (a : Authority) (x : ℕ) → Is s Grant e → Is r Receive e → a ≢ Reply → Is s a x → Is r a x
  pub call : (s e r : ℕ) → Is s Call e → Is r Receive e → s ≢ r → Is r Reply s
  pub grant_back : (s e r : ℕ) (a : Authority) (x : ℕ) → Is s Call e → Is r GrantBack e → a ≢ Reply → Is r a x → Is s a x
  pub bind : (s d n : ℕ) → Is s Handle d → Is s AsyncSend n → d ≢ n → Is d AsyncSend n

-- the edge lies in every table for which the rules hold
abbrev pub InLeast : Spec → List ℕ → ℕ → Authority → ℕ → Type 0
InLeast spec labels l a m = (cert : List Edge) → KeepsRules spec labels (Has cert) → Has cert l a m

-- the table has exactly these edges
pub record IsLeast (spec : Spec) (labels : List ℕ) (cert : List Edge) : Type 0 where
  pub each : (l : ℕ) (a : Authority) (m : ℕ) → InLeast spec labels l a m → Has cert l a m
  pub only : (l : ℕ) (a : Authority) (m : ℕ) → Has cert l a m → InLeast spec labels l a m

-- there are more of them than the number
pub record HasMoreThan (spec : Spec) (labels : List ℕ) (n : ℕ) : Type 0 where
  pub edges : List Edge
  pub sorted : IsSorted edges
  pub more : n < length edges
  pub each : (l : ℕ) (a : Authority) (m : ℕ) → Has edges l a m → InLeast spec labels l a m

-- why there is none: it has more than 262,144 edges
abbrev pub CloseRefused : Spec → List ℕ → CloseError → Type 0
CloseRefused spec labels Limit = HasMoreThan spec labels 262144
CloseRefused spec labels NoMemory = Unit {0}
