use Rattle.cap_audit.proofs.Common.{Auth, Authority, Has, Made, boot, subst, ℕ, ◌↔◌}
use Rattle.std.specs.Prelude.{IfOk}
use Rattle.cap_audit.proofs.making.Making.boot_edges.Goals as goal

pub returns : goal.returns
returns c =
    subst (λ (m : Made). IfOk c.direct.result (λ table. (l : ℕ) (a : Authority) (k : ℕ) → (Has table l a k)
    ↔ Auth m.spec m.labels (boot m.spec) l a k)) c.self.view_is c.direct.ensures
