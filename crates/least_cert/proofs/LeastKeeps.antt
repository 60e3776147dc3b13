-- The rules hold for the least certificate, and it decides whether any certificate will do.
use Rattle.least_cert.proofs.Common.{AsyncSend, Authority, Call, Control, Edge, Grant, GrantBack, Handle, Has, InLeast, IsLeast, KeepsRules, List, Receive, Reply, Spec, ℕ, rules, ◌≢◌}
use Rattle.cap_machine.specs.Runs.{Reaches}
use Rattle.cert_check.specs.Valid.{Valid}
use Rattle.cert_check.proofs.Keeps.{runs_stay}

pub valid_keeps : (spec : Spec) (labels : List ℕ) (policy cert : List Edge) → Valid spec labels policy cert
    → KeepsRules spec labels (Has cert)
valid_keeps spec labels policy cert v = search (rules)

pub keeps_valid : (spec : Spec) (labels : List ℕ) (policy cert : List Edge) → KeepsRules spec labels (Has cert)
    → ((l : ℕ) (a : Authority) (m : ℕ) → Has cert l a m → l ≢ m → Has policy l a m) → Valid spec labels policy cert
keeps_valid spec labels policy cert k within = search (rules)

-- the rules hold for the meet
pub least_keeps : (spec : Spec) (labels : List ℕ) → KeepsRules spec labels (InLeast spec labels)
least_keeps spec labels = search (rules)

module _ (spec : Spec) (labels : List ℕ) (least : List Edge) (is : IsLeast spec labels least) where
  -- and so for its table
  pub table_keeps : KeepsRules spec labels (Has least)
  table_keeps =
      let k : KeepsRules spec labels (InLeast spec labels) = least_keeps spec labels in
      record {
        boot_held = λ l a m h. is.each l a m (k.boot_held l a m h);
        boot_structural = λ l a m h differ. is.each l a m (k.boot_structural l a m h differ);
        control_out = λ l m a x c other h. is.each m a x (k.control_out l m a x (is.only l Control m c) other (is.only l a x h));
        control_back = λ l m a x c other h. is.each l a x (k.control_back l m a x (is.only l Control m c) other
            (is.only m a x h));
        grant = λ s e r a x g q other h. is.each r a x (k.grant s e r a x (is.only s Grant e g) (is.only r Receive e q) other
            (is.only s a x h));
        call = λ s e r c q differ. is.each r Reply s (k.call s e r (is.only s Call e c) (is.only r Receive e q) differ);
        grant_back = λ s e r a x c g other h. is.each s a x (k.grant_back s e r a x (is.only s Call e c) (is.only r GrantBack e g)
            other (is.only r a x h));
        bind = λ s d n h q differ. is.each d AsyncSend n (k.bind s d n (is.only s Handle d h) (is.only s AsyncSend n q) differ);
      }

  -- where some certificate is valid, this one is
  pub least_valid : (policy cert : List Edge) → Valid spec labels policy cert → Valid spec labels policy least
  least_valid policy cert v = search (rules, keeps_valid, table_keeps, valid_keeps)

  -- what runs reach between labels is in it
  pub least_reached : (l : ℕ) (a : Authority) (m : ℕ) → Reaches spec labels l a m → l ≢ m → Has least l a m
  least_reached l a m reaches differ = runs_stay spec labels least least (keeps_valid spec labels least least table_keeps
      (λ x b y h other. h)) l a m reaches differ
