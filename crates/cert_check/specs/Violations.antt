-- How each rule fails: by an edge that is lacking, and for the five rules in the middle by two edges of the certificate
-- besides. The first of the two is the edge that the rule names first (of the control rule, the Control edge); the
-- second is the edge to be copied, or, of the call and bind rules, the other edge of the condition.
use Rattle.std.specs.Prelude.{◌≡◌, ◌≢◌, ◌⊎◌, ℕ, List, false, true}
use Rattle.cert_check.specs.Below.{AsyncSend, Call, Control, Edge, Grant, GrantBack, Handle, Has, Held, Receive, Reply, Spec, Structural, boot, edge, has}
use Rattle.cert_check.specs.declared.violation.Violation.{Violation}

pub record BreaksBoot (spec : Spec) (labels : List ℕ) (cert : List Edge) (lack : Edge) : Type 0 where
  pub at_boot :
      Held spec labels (boot spec) lack.from lack.authority lack.to
      ⊎ (Structural spec labels (boot spec) lack.from lack.authority lack.to × (lack.from ≢ lack.to))
  pub lacks : has cert lack ≡ false

-- an edge other than Reply out of r that isn't there while the same edge out of s is
pub record Missing (cert : List Edge) (s : ℕ) (r : ℕ) (lack : Edge) : Type 0 where
  pub out : lack.from ≡ r
  pub other : lack.authority ≢ Reply
  pub there : has cert (edge s lack.authority lack.to) ≡ true
  pub lacks : has cert lack ≡ false

-- x and y are to have the same edges other than Reply, and one lacks one that the other has
abbrev pub MissingEither : List Edge → ℕ → ℕ → Violation → Type 0
MissingEither cert x y v =
    (Missing cert x y v.lack × (v.second ≡ edge x v.lack.authority v.lack.to))
    ⊎ (Missing cert y x v.lack × (v.second ≡ edge y v.lack.authority v.lack.to))

pub record BreaksControl (cert : List Edge) (v : Violation) : Type 0 where
  pub control : v.first.authority ≡ Control
  pub there : has cert v.first ≡ true
  pub missing : MissingEither cert v.first.from v.first.to v

pub record BreaksGrant (cert : List Edge) (v : Violation) : Type 0 where
  pub grant : v.first.authority ≡ Grant
  pub there : has cert v.first ≡ true
  pub receive : Has cert v.lack.from Receive v.first.to
  pub missing : Missing cert v.first.from v.lack.from v.lack
  pub copied : v.second ≡ edge v.first.from v.lack.authority v.lack.to

pub record BreaksCall (cert : List Edge) (v : Violation) : Type 0 where
  pub call : v.first.authority ≡ Call
  pub there : has cert v.first ≡ true
  pub receive : v.second.authority ≡ Receive
  pub same : v.second.to ≡ v.first.to
  pub there_too : has cert v.second ≡ true
  pub differ : v.first.from ≢ v.second.from
  pub reply : v.lack ≡ edge v.second.from Reply v.first.from
  pub lacks : has cert v.lack ≡ false

pub record BreaksGrantBack (cert : List Edge) (v : Violation) : Type 0 where
  pub call : v.first.authority ≡ Call
  pub there : has cert v.first ≡ true
  pub grants_back : Has cert v.second.from GrantBack v.first.to
  pub missing : Missing cert v.second.from v.first.from v.lack
  pub copied : v.second ≡ edge v.second.from v.lack.authority v.lack.to

pub record BreaksBind (cert : List Edge) (v : Violation) : Type 0 where
  pub handle : v.first.authority ≡ Handle
  pub there : has cert v.first ≡ true
  pub sends : v.second.authority ≡ AsyncSend
  pub same : v.second.from ≡ v.first.from
  pub there_too : has cert v.second ≡ true
  pub differ : v.first.to ≢ v.second.to
  pub redirected : v.lack ≡ edge v.first.to AsyncSend v.second.to
  pub lacks : has cert v.lack ≡ false

pub record BreaksPolicy (policy : List Edge) (cert : List Edge) (lack : Edge) : Type 0 where
  pub there : has cert lack ≡ true
  pub differ : lack.from ≢ lack.to
  pub lacks : has policy lack ≡ false
