-- The rules that a certificate keeps. The first six name edges that it must have; an edge in a condition is one of its
-- own. "The same edge out of m" has the same authority and goes to the same label.
--
--   boot edges  every held edge of the boot state, and every structural edge of it between different labels
--   control     where l Control m: each edge other than Reply out of l also out of m, and each out of m also out of l
--   grant       where s Grant e and r Receive e: each edge other than Reply out of s also out of r
--   call        where s Call e and r Receive e, and s and r differ: r Reply s
--   grant back  where s Call e and r GrantBack e: each edge other than Reply out of r also out of s
--   bind        where s Handle d and s AsyncSend n, and d and n differ: d AsyncSend n
--   policy      each edge of the certificate between different labels is in the policy
--
-- All of them speak of labels and of the boot state alone, of no run.
use Rattle.std.specs.Prelude.{◌≢◌, ℕ, List}
use Rattle.cert_check.specs.Below.{AsyncSend, Authority, Call, Control, Edge, Grant, GrantBack, Handle, Has, Held, Receive, Reply, Spec, Structural, boot}
use Rattle.cap_machine.specs.Runs.{Reaches}

-- each edge other than Reply out of s goes out of r too
abbrev pub Passes : List Edge → ℕ → ℕ → Type 0
Passes cert s r = (a : Authority) (x : ℕ) → a ≢ Reply → Has cert s a x → Has cert r a x

pub record Valid (spec : Spec) (labels : List ℕ) (policy : List Edge) (cert : List Edge) : Type 0 where
  pub boot_held : (l : ℕ) (a : Authority) (m : ℕ) → Held spec labels (boot spec) l a m → Has cert l a m
  pub boot_structural : (l : ℕ) (a : Authority) (m : ℕ) → Structural spec labels (boot spec) l a m → l ≢ m → Has cert l a m
  pub control_out : (l m : ℕ) → Has cert l Control m → Passes cert l m
  pub control_back : (l m : ℕ) → Has cert l Control m → Passes cert m l
  pub grant : (s e r : ℕ) → Has cert s Grant e → Has cert r Receive e → Passes cert s r
  pub call : (s e r : ℕ) → Has cert s Call e → Has cert r Receive e → s ≢ r → Has cert r Reply s
  pub grant_back : (s e r : ℕ) → Has cert s Call e → Has cert r GrantBack e → Passes cert r s
  pub bind : (s d n : ℕ) → Has cert s Handle d → Has cert s AsyncSend n → d ≢ n → Has cert d AsyncSend n
  pub in_policy : (l : ℕ) (a : Authority) (m : ℕ) → Has cert l a m → l ≢ m → Has policy l a m

-- every edge that any run reaches is in the policy or within one label
abbrev pub Stays : Spec → List ℕ → List Edge → Type 0
Stays spec labels policy = (l : ℕ) (a : Authority) (m : ℕ) → Reaches spec labels l a m → l ≢ m → Has policy l a m
