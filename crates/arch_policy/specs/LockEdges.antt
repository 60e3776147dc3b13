-- What a domain may do with a lock of its own, within its label: leaf by leaf, where the leaf has a lock.
use Rattle.std.specs.Prelude.{◌≡◌, ℕ, true, Some}
use Rattle.arch_policy.specs.Below.{Edge, Leaf, RW, is_lock, kind_confers, list_any, members_at}
use Rattle.arch_policy.specs.Tables.{Tables, domain_label}
use Rattle.cap_model.specs.declared.kind.Kind.TheVariants.{Notification}

-- what rights to read and write a notification confer, within a label
pub record IsWithLock (label : ℕ) (e : Edge) : Type 0 where
  pub from : e.from ≡ label
  pub conferred : kind_confers Notification RW e.authority ≡ true
  pub to : e.to ≡ label

-- where the leaf is in a domain, and has a lock
pub record IsOfLeaf (t : Tables) (leaf : Leaf) (e : Edge) : Type 0 where
  pub domain : ℕ
  pub inside : leaf.domain ≡ Some domain
  pub locks : list_any is_lock (members_at t.source leaf.component) ≡ true
  pub with_lock : IsWithLock (domain_label t domain) e
