-- Every system has a certificate: the assigned edges, and those of locks.
use Rattle.reach_laws.proofs.Common.{AsyncSend, Authority, Edge, IsCertificateOf, IsLockEdge, Leaf, List, LockAt, None, Notification, Option, RW, Some, Tables, an_authority, ap, domain_label, edge, inl, inr, kind_confers, list_any, listed, lock_edge}
use Rattle.reach_laws.proofs.Common.{lock_edges, lock_of_member, refl, rules, slice_get, subst, sym, triples, true, ℕ, ◌++◌, ◌∙◌, ◌≡◌}
use Rattle.adl_ast.specs.declared.component.Member.TheVariants as members
use Rattle.authorities.specs.Authorities.{authorities}
use Rattle.cspace_layout.specs.Members.{is_lock, members_at}
use Rattle.cam_base.specs.Gather.{IsIn, gather}
use Rattle.cam_base.proofs.Gathered.{from_gather, in_append, in_gather, in_left, in_place, in_right, place_of}
use Rattle.arch_policy.specs.Where.{where_true}
use Rattle.arch_policy.proofs.Lists.{from_where, has_in, in_any, in_has, in_where}
use Rattle.cam_base.proofs.NumberedLists.{from_any}

-- what RW on a notification confers, from one label to itself
abbrev own_at : ℕ → List Edge
own_at l = gather (λ i a. where_true (kind_confers Notification RW a) (edge l a l)) authorities

abbrev own_edges : Tables → List Edge
own_edges t = gather (λ i s. own_at s.from) (lock_edges t)

abbrev pub certificate : Tables → List Edge
certificate t = triples t ++ own_edges t

from_own : (l : ℕ) (e : Edge) → IsIn e (own_at l) → (a : Authority) × (kind_confers Notification RW a ≡ true) × (edge l a l ≡ e)
from_own l e i = search (rules, from_gather, from_where)

in_own : (l : ℕ) (a : Authority) → kind_confers Notification RW a ≡ true → IsIn (edge l a l) (own_at l)
in_own l a h = search (rules, place_of, an_authority, in_gather, in_where)

module _ (t : Tables) where
  record Locked (l : ℕ) : Type 0 where
    lock : LockAt t.source t.flat
    is : l ≡ domain_label t lock.domain

  from_lock : (s : Edge) → IsIn s (lock_edges t) → Locked s.from
  from_lock s i =
      let g = from_gather (λ l (leaf : Leaf). lock_edge t leaf.domain (list_any is_lock (members_at t.source leaf.component))) s
      t.flat.leaves i in
      go g.0 g.1 g.2 g.1.domain refl g.3 where
        go : (k : ℕ) (leaf : Leaf) → slice_get t.flat.leaves k ≡ Some leaf → (o : Option ℕ) → leaf.domain ≡ o
            → IsIn s (lock_edge t o (list_any is_lock (members_at t.source leaf.component))) → Locked s.from
        go k leaf h None e i = absurd i
        go k leaf h (Some d) e i =
            let w = from_where (list_any is_lock (members_at t.source leaf.component))
            (edge (domain_label t d) AsyncSend (domain_label t d)) s i in
            let x = from_any is_lock (members_at t.source leaf.component) w.0 in
            let p = place_of x.0 (members_at t.source leaf.component) x.1 in let y = lock_of_member x.0 x.2 in
            record {
              lock = record {
                leaf = k;
                found = leaf;
                here = h;
                domain = d;
                inside = e;
                member = p.0;
                lock = y.0;
                declared = p.1 ∙ ap (λ z. Some z) y.1;
              };
              is = ap (λ (z : Edge). z.from) (sym w.1);
            }

  in_lock : (k : LockAt t.source t.flat) → IsIn (edge (domain_label t k.domain) AsyncSend (domain_label t k.domain))
      (lock_edges t)
  in_lock k =
      let own = edge (domain_label t k.domain) AsyncSend (domain_label t k.domain) in
      let ms = members_at t.source k.found.component in
      let any = in_any is_lock (members.Lock k.lock) ms (in_place (members.Lock k.lock) ms k.member k.declared) refl in
      in_gather (λ l (leaf : Leaf). lock_edge t leaf.domain (list_any is_lock (members_at t.source leaf.component))) own
      t.flat.leaves k.leaf k.found k.here
      (subst (λ o. IsIn own (lock_edge t o (list_any is_lock ms))) (sym k.inside) (in_where (list_any is_lock ms) own any))

  own_listed : (e : Edge) → IsIn e (own_edges t) → IsLockEdge t e
  own_listed e i =
      let g = from_gather (λ i (s : Edge). own_at s.from) e (lock_edges t) i in
      let k = from_lock g.1 (in_place g.1 (lock_edges t) g.0 g.2) in let w = from_own g.1.from e g.3 in
      let own : IsLockEdge t (edge g.1.from w.0 g.1.from) = record { lock = k.lock; from = k.is; conferred = w.1; to = k.is } in
      subst (λ z. IsLockEdge t z) w.2 own

  own_there : (e : Edge) → IsLockEdge t e → IsIn e (own_edges t)
  own_there e k =
      let l = domain_label t k.lock.domain in
      let p = place_of (edge l AsyncSend l) (lock_edges t) (in_lock k.lock) in
      let E : IsIn (edge l e.authority l) (own_edges t) = in_gather (λ i (s : Edge). own_at s.from) (edge l e.authority l)
      (lock_edges t) p.0 (edge l AsyncSend l) p.1 (in_own l e.authority k.conferred) in
      subst (λ z. IsIn (edge z e.authority e.to) (own_edges t)) (sym k.from)
      (subst (λ z. IsIn (edge l e.authority z) (own_edges t)) (sym k.to) E)

pub certificate_is : (t : Tables) → IsCertificateOf t (certificate t)
certificate_is t e = (
  λ h. elim (in_append e (triples t) (own_edges t) (has_in e (certificate t) h)) [
    | inl i ↦ inl ((listed t e).0 i)
    | inr i ↦ inr (own_listed t e i)
  ],
  λ r. elim r [
    | inl r ↦ in_has e (certificate t) (in_left e (triples t) (own_edges t) ((listed t e).1 r))
    | inr k ↦ in_has e (certificate t) (in_right e (triples t) (own_edges t) (own_there t e k))
  ],
)
