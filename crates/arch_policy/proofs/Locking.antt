-- The edges of locks, leaf by leaf, are those of the locks of domains.
use Rattle.arch_policy.proofs.Common.{Adds, Edge, IsCertificateOf, IsLockEdge, IsOfLeaf, IsOfSet, IsPolicyOf, IsSetOf, IsWithLock, List, RW, Some, Tables, adds_same, from_any, has, in_place, inr, is_lock}
use Rattle.arch_policy.proofs.Common.{members_at, place_of, refl, rules, sym, true, ℕ, ⊎_elim, ◌↔◌, ◌∙◌, ◌≡◌, ◌⊎◌}
use Rattle.adl_ast.specs.declared.component.Member.TheVariants as members
use Rattle.arch_policy.proofs.Listed.{lock_of_member}
use Rattle.arch_policy.proofs.Lists.{in_any}
use Rattle.cap_machine.specs.Sources.{OfEach}
use Rattle.cap_model.specs.Confers.{kind_confers}
use Rattle.cap_model.specs.declared.kind.Kind.TheVariants.{Notification}

pub with_lock_adds : (label bits : ℕ) (a b : List Edge) → IsSetOf (kind_confers Notification RW) bits
    → Adds (IsOfSet label bits label) a b → Adds (IsWithLock label) a b
with_lock_adds label bits a b set grown = search (rules, adds_same)

-- ---- all leaves

of_leaf : (t : Tables) (e : Edge) → IsLockEdge t e → OfEach (λ k leaf. IsOfLeaf t leaf) t.flat.leaves e
of_leaf t e h = search (rules, in_any, in_place)

lock_edge : (t : Tables) (e : Edge) → OfEach (λ k leaf. IsOfLeaf t leaf) t.flat.leaves e → IsLockEdge t e
lock_edge t e h =
    let by = h.by in
    let ms = members_at t.source h.item.component in
    let x = from_any is_lock ms by.locks in
    let p = place_of x.0 ms x.1 in
    let y = lock_of_member x.0 x.2 in
    let own = by.with_lock in
    record {
      lock = search (rules);
      from = own.from;
      conferred = own.conferred;
      to = own.to;
    }

pub all_leaves : (t : Tables) (a b : List Edge) → Adds (OfEach (λ k leaf. IsOfLeaf t leaf) t.flat.leaves) a b
    → Adds (IsLockEdge t) a b
all_leaves t a b grown = adds_same (OfEach (λ k leaf. IsOfLeaf t leaf) t.flat.leaves) (IsLockEdge t) (lock_edge t)
    (of_leaf t) a b grown

-- ---- the certificate

exactly : (t : Tables) (policy edges cert : List Edge) → Adds (IsLockEdge t) policy edges
    → ((e : Edge) → has cert e ≡ has edges e) → (e : Edge) → (has cert e ≡ true) ↔ ((has policy e ≡ true) ⊎ IsLockEdge t e)
exactly t policy edges cert grown same e =
    (λ h. grown.only e (sym (same e) ∙ h), λ h. same e ∙ ⊎_elim (λ i. grown.kept e i) (λ l. grown.added e l) h)

pub certified : (t : Tables) (policy kept edges sorted read cert : List Edge) → kept ≡ policy → Adds (IsLockEdge t) kept edges
    → ((e : Edge) → has sorted e ≡ has edges e) → read ≡ sorted → ((e : Edge) → has cert e ≡ has read e)
    → (e : Edge) → (has cert e ≡ true) ↔ ((has policy e ≡ true) ⊎ IsLockEdge t e)
certified t policy kept edges sorted read cert first grown moved told same = search (rules, exactly)

pub certifies : (t : Tables) (policy cert : List Edge)
    → ((e : Edge) → (has cert e ≡ true) ↔ ((has policy e ≡ true) ⊎ IsLockEdge t e)) → IsPolicyOf t policy → IsCertificateOf t cert
certifies t policy cert exact is e = search (rules)
