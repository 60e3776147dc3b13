-- The listed edges are those that have a reason.
use Rattle.arch_policy.proofs.Common.{AsyncSend, Authority, Bool, Connector, Edge, FlatConnection, FlatEnd, From, Handle, Interrupt, IsBound, IsIn, IsPolicyOf, Leaf, List, NoObject, None, Notification, ObjectKind, OfDevice, OfEndpoint, OfFrames}
use Rattle.arch_policy.proofs.Common.{OfIrq, OfNotification, Option, Reply, Role, Rpc, Some, Tables, To, [], and_from, and_parts, ap, authorities, bound_edges, connection_label, crossed, crossed_at, crossed_edges, direct_edges, domain_label}
use Rattle.arch_policy.proofs.Common.{edge, end_edges, eq-eqb, eqb-true, false, from_any, from_gather, gather, given_edges, gives, handle_edges, has, in_append, in_gather, in_left, in_place, in_right, inl, inr, is_lock, labels_in_role, leads_out}
use Rattle.arch_policy.proofs.Common.{leaf_label, leaves, list_any, lock_edge, lock_edges, members_at, opposite, place_of, refl, reply_edges, row_edges, row_gives, rows_of, same_connector, same_object, same_role, set_has, signal_edges, signals_at}
use Rattle.arch_policy.proofs.Common.{rules, slice_get, subst, sym, targets, triples, true, true≢false, where_true, ℕ, ◌&&◌, ◌++◌, ◌==◌, ◌↔◌, ◌∙◌, ◌∷◌, ◌≡◌, ◌≢◌}
use Rattle.adl_ast.specs.declared.component.Lock.{Lock}
use Rattle.adl_ast.specs.declared.component.Member.{Member}
use Rattle.adl_ast.specs.declared.component.Member.TheVariants as members
use Rattle.conn_rules.specs.declared.rule.RuleRow.{RuleRow}
use Rattle.cspace_layout.specs.Lookups.{setting_of}
use Rattle.arch_policy.specs.Reasons.{AtOtherEnd, BindReason, CallReason, DirectReason, Handles, IsReasoned, LeadsTo, LockReason, Reason, by_bind, by_call, by_direct, by_lock}
use Rattle.arch_policy.proofs.Lists.{from_filter, from_where, has_in, in_any, in_filter, in_has, in_where, leads, led_out}
use Rattle.arch_policy.proofs.Same.{is_connector, is_object, same_connector_self, same_object_self, same_role_self}
use Rattle.arch_policy.proofs.Given.{an_authority}
use Rattle.conn_rules.proofs.Roles.{is_role}
use Rattle.arch_policy.specs.Ends.{EndAt, IsEnd, LockAt}

pub is_same_role : (r q : Role) → r ≡ q → same_role r q ≡ true
is_same_role r q e = ap (λ z. same_role z q) e ∙ same_role_self q

pub is_same_connector : (c d : Connector) → c ≡ d → same_connector c d ≡ true
is_same_connector c d e = ap (λ z. same_connector z d) e ∙ same_connector_self d

-- ---- edges from labels to labels

from_crossed : (ls : List ℕ) (a : Authority) (ms : List ℕ) (e : Edge) → IsIn e (crossed ls a ms) → (l : ℕ) × (m : ℕ) × IsIn l ls
    × IsIn m ms × (edge l a m ≡ e)
from_crossed ls a ms e i = search (rules, from_gather, in_place)

in_crossed : (ls : List ℕ) (a : Authority) (ms : List ℕ) (l m : ℕ) → IsIn l ls → IsIn m ms → IsIn (edge l a m) (crossed ls a ms)
in_crossed ls a ms l m i j =
    let p = place_of l ls i in
    let q = place_of m ms j in
    in_gather (λ i l. gather (λ j m. edge l a m ∷ []) ms) (edge l a m) ls p.0 l p.1
    (in_gather (λ j m. edge l a m ∷ []) (edge l a m) ms q.0 m q.1 (inl refl))

pub from_bound : (hs ss : List Edge) (e : Edge) → IsIn e (bound_edges hs ss) → IsBound hs ss e
from_bound hs ss e i =
    let h = from_gather (λ i (h : Edge). gather (λ j (s : Edge). where_true (h.from == s.from) (edge h.to AsyncSend s.to))
    ss) e hs i in
    let s = from_gather (λ j (s : Edge). where_true (h.1.from == s.from) (edge h.1.to AsyncSend s.to)) e ss h.3 in
    let w = from_where (h.1.from == s.1.from) (edge h.1.to AsyncSend s.1.to) e s.3 in
    record {
      handle = h.1;
      listed = in_place h.1 hs h.0 h.2;
      by = record {
        signal = s.1;
        listed = in_place s.1 ss s.0 s.2;
        same = eqb-true h.1.from s.1.from w.0;
        is = w.1;
      };
    }

pub in_bound : (hs ss : List Edge) (e : Edge) → IsBound hs ss e → IsIn e (bound_edges hs ss)
in_bound hs ss e j =
    let by = j.by in
    let p = place_of j.handle hs j.listed in
    let q = place_of by.signal ss by.listed in
    let d = edge j.handle.to AsyncSend by.signal.to in
    let E : IsIn d (bound_edges hs ss) = search (rules, in_gather, in_where, eq-eqb) in
    subst (λ z. IsIn z (bound_edges hs ss)) by.is E

pub lock_of_member : (m : Member) → is_lock m ≡ true → (x : Lock) × (m ≡ members.Lock x)
lock_of_member (members.Lock x) h = (x, refl)
lock_of_member (members.Control p) h = absurd (true≢false (sym h))
lock_of_member (members.Hardware p) h = absurd (true≢false (sym h))
lock_of_member (members.Include p) h = absurd (true≢false (sym h))
lock_of_member (members.Interface p) h = absurd (true≢false (sym h))
lock_of_member (members.Attribute p) h = absurd (true≢false (sym h))
lock_of_member (members.Composition p) h = absurd (true≢false (sym h))
lock_of_member (members.Configuration p) h = absurd (true≢false (sym h))

module _ (t : Tables) where
  abbrev pub End : Type 0
  End = EndAt t.flat

  abbrev pub end_in : (k n : ℕ) (c : FlatConnection) (e : FlatEnd) → slice_get t.flat.connections k ≡ Some c
      → slice_get c.ends n ≡ Some e → End
  end_in k n c e h s = record { place = k; connection = c; here = h; number = n; end = e; stands = s }

  pub same_place : (x y : End) → y.place ≡ x.place → y.connection ≡ x.connection
  same_place x y e = search (rules)

  -- an end of a connection that has this label and this role
  record InRole (k : ℕ) (c : FlatConnection) (r : Role) (l : ℕ) : Type 0 where
    at : End
    place_is : at.place ≡ k
    connection_is : at.connection ≡ c
    role : at.end.role ≡ r
    label : l ≡ leaf_label t at.end.leaf

  from_role : (k : ℕ) (c : FlatConnection) (h : slice_get t.flat.connections k ≡ Some c) (r : Role) (l : ℕ)
      → IsIn l (labels_in_role t r c.ends) → InRole k c r l
  from_role k c h r l i =
      let g = from_gather (λ n (e : FlatEnd). where_true (same_role e.role r) (leaf_label t e.leaf)) l c.ends i in
      let w = from_where (same_role g.1.role r) (leaf_label t g.1.leaf) l g.3 in
      record {
        at = end_in k g.0 c g.1 h g.2;
        place_is = refl;
        connection_is = refl;
        role = is_role g.1.role r w.0;
        label = sym w.1;
      }

  in_role : (x : End) (r : Role) → x.end.role ≡ r → IsIn (leaf_label t x.end.leaf) (labels_in_role t r x.connection.ends)
  in_role x r e = search (rules, in_gather, in_where, is_same_role)

  -- ---- direct

  from_other : (k n : ℕ) (c : FlatConnection) (e : FlatEnd) (h : slice_get t.flat.connections k ≡ Some c)
      (s : slice_get c.ends n ≡ Some e) (m : ℕ) → IsIn m (labels_in_role t (opposite e.role) c.ends)
      → AtOtherEnd t (end_in k n c e h s) m
  from_other k n c e h s m i =
      let g = from_role k c h (opposite e.role) m i in
      record { at = g.at; same = g.place_is; role = g.role; label_is = g.label }

  in_other : (x : End) (m : ℕ) → AtOtherEnd t x m → IsIn m (labels_in_role t (opposite x.end.role) x.connection.ends)
  in_other x m o = search (rules, same_place, in_role)

  from_target : (k n : ℕ) (c : FlatConnection) (e : FlatEnd) (h : slice_get t.flat.connections k ≡ Some c)
      (s : slice_get c.ends n ≡ Some e) (o : ObjectKind) (m : ℕ) → IsIn m (targets t k c e.role o)
      → LeadsTo t (end_in k n c e h s) o m
  from_target k n c e h s OfEndpoint m (inl q) = sym q
  from_target k n c e h s OfEndpoint m (inr i) = absurd i
  from_target k n c e h s OfNotification m (inl q) = sym q
  from_target k n c e h s OfNotification m (inr i) = absurd i
  from_target k n c e h s OfFrames m (inl q) = sym q
  from_target k n c e h s OfFrames m (inr i) = absurd i
  from_target k n c e h s OfDevice m i = from_other k n c e h s m i
  from_target k n c e h s OfIrq m i = from_other k n c e h s m i
  from_target k n c e h s NoObject m i = i

  in_target : (x : End) (o : ObjectKind) (m : ℕ) → LeadsTo t x o m → IsIn m (targets t x.place x.connection x.end.role o)
  in_target x OfEndpoint m q = inl (sym q)
  in_target x OfNotification m q = inl (sym q)
  in_target x OfFrames m q = inl (sym q)
  in_target x OfDevice m q = in_other x m q
  in_target x OfIrq m q = in_other x m q
  in_target x NoObject m q = absurd q

  -- a row gives what the table gives over its object
  row_given : (c : Connector) (r : Role) (row : RuleRow) (a : Authority) → IsIn row (rows_of c r)
      → set_has row.authorities.bits a ≡ true → gives c r row.object a ≡ true
  row_given c r row a i h = search (rules, in_any, and_from, same_object_self)

  given_row : (c : Connector) (r : Role) (o : ObjectKind) (a : Authority) → gives c r o a ≡ true
      → (row : RuleRow) × IsIn row (rows_of c r) × (row.object ≡ o) × (set_has row.authorities.bits a ≡ true)
  given_row c r o a h =
      let g = from_any (λ row. same_object row.object o && set_has row.authorities.bits a) (rows_of c r) h in
      let w = and_parts (same_object g.0.object o) (set_has g.0.authorities.bits a) g.2 in
      (g.0, g.1, is_object g.0.object o w.0, w.1)

  from_given : (k n : ℕ) (row : RuleRow) (l m : ℕ) (e : Edge) → IsIn e (given_edges t k n row l m)
      → (a : Authority) × (row_gives t k n row a ≡ true) × (edge l a m ≡ e)
  from_given k n row l m e i =
      let g = from_gather (λ i a. where_true (row_gives t k n row a) (edge l a m)) e authorities i in
      let w = from_where (row_gives t k n row g.1) (edge l g.1 m) e g.3 in
      (g.1, w.0, w.1)

  in_given : (k n : ℕ) (row : RuleRow) (l m : ℕ) (a : Authority) → row_gives t k n row a ≡ true
      → IsIn (edge l a m) (given_edges t k n row l m)
  in_given k n row l m a h =
      let p = place_of a authorities (an_authority a) in
      in_gather (λ i a. where_true (row_gives t k n row a) (edge l a m)) (edge l a m) authorities p.0 a p.1
      (in_where (row_gives t k n row a) (edge l a m) h)

  -- an edge that an end is given leads out of its label
  out_of_own : (k n : ℕ) (c : FlatConnection) (f : FlatEnd) (e : Edge) → IsIn e (end_edges t k c n f)
      → e.from ≡ leaf_label t f.leaf
  out_of_own k n c f e i = search (rules, from_gather, from_given)

  pub none_of_another : (k n : ℕ) (c : FlatConnection) (f : FlatEnd) (e : Edge) → leaf_label t f.leaf ≢ e.from
      → has (end_edges t k c n f) e ≡ false
  none_of_another k n c f e differ = go (has (end_edges t k c n f) e) refl where
    go : (b : Bool) → has (end_edges t k c n f) e ≡ b → has (end_edges t k c n f) e ≡ false
    go true h = absurd (differ (sym (out_of_own k n c f e (has_in e (end_edges t k c n f) h))))
    go false h = h

  -- what an end is given
  pub from_end : (k n : ℕ) (c : FlatConnection) (f : FlatEnd) (h : slice_get t.flat.connections k ≡ Some c)
      (s : slice_get c.ends n ≡ Some f) (e : Edge) → IsIn e (end_edges t k c n f) → DirectReason t e
  from_end k n c f h s e i =
      let r = from_gather (λ i row. row_edges t k c n f row) e (rows_of c.connector f.role) i in
      let row = r.1 in
      let m = from_gather (λ i m. given_edges t k n row (leaf_label t f.leaf) m) e (targets t k c f.role row.object) r.3 in
      let w = from_given k n row (leaf_label t f.leaf) m.1 e m.3 in
      let both = and_parts (set_has row.authorities.bits w.0) (leaves (setting_of t.settled k n) w.0) w.1 in
      let lead = from_target k n c f h s row.object m.1 (in_place m.1 (targets t k c f.role row.object) m.0 m.2) in
      let authority : w.0 ≡ e.authority = ap (λ (z : Edge). z.authority) w.2 in
      let target : m.1 ≡ e.to = ap (λ (z : Edge). z.to) w.2 in
      record {
        at = end_in k n c f h s;
        object = row.object;
        given = subst (λ a. gives c.connector f.role row.object a ≡ true) authority
            (row_given c.connector f.role row w.0 (in_place row (rows_of c.connector f.role) r.0 r.2) both.0);
        left = subst (λ a. leaves (setting_of t.settled k n) a ≡ true) authority both.1;
        from = ap (λ (z : Edge). z.from) (sym w.2);
        to = subst (λ z. LeadsTo t (end_in k n c f h s) row.object z) target lead;
      }

  -- it is given at this end
  pub from_end_at : (k n : ℕ) (c : FlatConnection) (f : FlatEnd) (h : slice_get t.flat.connections k ≡ Some c)
      (s : slice_get c.ends n ≡ Some f) (e : Edge) (i : IsIn e (end_edges t k c n f))
      → (from_end k n c f h s e i).at ≡ end_in k n c f h s
  unfolding from_end
  from_end_at k n c f h s e i = refl

  pub in_end : (e : Edge) (d : DirectReason t e) → IsIn e (end_edges t d.at.place d.at.connection d.at.number d.at.end)
  in_end e d =
      let x = d.at in
      let l = e.from in
      let a = e.authority in
      let m = e.to in
      let row = given_row x.connection.connector x.end.role d.object a d.given in
      let ts = targets t x.place x.connection x.end.role row.0.object in
      let there : IsIn m ts = search (rules, in_target) in
      let p = place_of m ts there in
      let q = place_of row.0 (rows_of x.connection.connector x.end.role) row.1 in
      let own = leaf_label t x.end.leaf in
      let E : IsIn (edge own a m) (end_edges t x.place x.connection x.number x.end) =
      search (rules, in_gather, in_given, and_from) in
      subst (λ z. IsIn (edge z a m) (end_edges t x.place x.connection x.number x.end)) (sym d.from) E

  from_direct : (e : Edge) → IsIn e (direct_edges t) → DirectReason t e
  from_direct e i = search (rules, from_gather, from_end)

  in_direct : (e : Edge) → DirectReason t e → IsIn e (direct_edges t)
  in_direct e d = search (rules, in_gather, in_end)

  -- ---- of two ends of one connection

  record Pair (connector : Connector) (l : ℕ) (m : ℕ) : Type 0 where
    to_end : End
    is_to : IsEnd connector To to_end
    from_end : End
    is_from : IsEnd connector From from_end
    same : from_end.place ≡ to_end.place
    l_is : l ≡ leaf_label t to_end.end.leaf
    m_is : m ≡ leaf_label t from_end.end.leaf

  from_at : (connector : Connector) (a : Authority) (e : Edge) (c : FlatConnection) → IsIn e (crossed_at t connector a c)
      → (same_connector c.connector connector ≡ true)
      × IsIn e (crossed (labels_in_role t To c.ends) a (labels_in_role t From c.ends))
  from_at connector a e c i = search (rules)

  in_at : (connector : Connector) (a : Authority) (e : Edge) (c : FlatConnection) → same_connector c.connector connector ≡ true
      → IsIn e (crossed (labels_in_role t To c.ends) a (labels_in_role t From c.ends)) → IsIn e (crossed_at t connector a c)
  in_at connector a e c q i = search (rules)

  record Paired (connector : Connector) (a : Authority) (e : Edge) : Type 0 where
    l : ℕ
    m : ℕ
    pair : Pair connector l m
    is : edge l a m ≡ e

  from_pair : (connector : Connector) (a : Authority) (e : Edge) → IsIn e (crossed_edges t connector a) → Paired connector a e
  from_pair connector a e i =
      let k = from_gather (λ k (c : FlatConnection). crossed_at t connector a c) e t.flat.connections i in
      let c = k.1 in
      let w = from_at connector a e c k.3 in
      let is = is_connector c.connector connector w.0 in
      let x = from_crossed (labels_in_role t To c.ends) a (labels_in_role t From c.ends) e w.1 in
      let p = from_role k.0 c k.2 To x.0 x.2 in
      let q = from_role k.0 c k.2 From x.1 x.3 in
      record {
        l = x.0;
        m = x.1;
        pair = record {
          to_end = p.at;
          is_to = record { connector = ap (λ (z : FlatConnection). z.connector) p.connection_is ∙ is; role = p.role };
          from_end = q.at;
          is_from = record { connector = ap (λ (z : FlatConnection). z.connector) q.connection_is ∙ is; role = q.role };
          same = q.place_is ∙ sym p.place_is;
          l_is = p.label;
          m_is = q.label;
        };
        is = x.4;
      }

  in_pair : (connector : Connector) (a : Authority) (l m : ℕ) → Pair connector l m
      → IsIn (edge l a m) (crossed_edges t connector a)
  in_pair connector a l m p =
      let x = p.to_end in
      let y = p.from_end in
      let c = x.connection in
      let same = same_place x y p.same in
      let i : IsIn l (labels_in_role t To c.ends) = search (rules, in_role) in
      let j : IsIn m (labels_in_role t From c.ends) = search (rules, in_role) in
      search (rules, in_gather, in_at, is_same_connector, in_crossed)

  from_reply : (e : Edge) → IsIn e (reply_edges t) → CallReason t e
  from_reply e i =
      let g = from_pair Rpc Reply e i in
      let p = g.pair in
      let reason : CallReason t (edge g.l Reply g.m) = record {
        caller = p.from_end;
        calls = p.is_from;
        server = p.to_end;
        serves = p.is_to;
        same = sym p.same;
        from = p.l_is;
        authority = refl;
        to = p.m_is;
      } in
      subst (λ z. CallReason t z) g.is reason

  in_reply : (l : ℕ) (a : Authority) (m : ℕ) → CallReason t (edge l a m) → IsIn (edge l a m) (reply_edges t)
  in_reply l a m c =
      let E : IsIn (edge l Reply m) (reply_edges t) = in_pair Rpc Reply l m (record {
        to_end = c.server;
        is_to = c.serves;
        from_end = c.caller;
        is_from = c.calls;
        same = sym c.same;
        l_is = c.from;
        m_is = c.to;
      }) in
      subst (λ z. IsIn (edge l z m) (reply_edges t)) (sym c.authority) E

  -- ---- of interrupts

  handles_of : (l d : ℕ) → Pair Interrupt l d → Handles t l d
  handles_of l d p = search (rules)

  in_handles : (l d : ℕ) → Handles t l d → IsIn (edge l Handle d) (handle_edges t)
  in_handles l d h = search (rules, in_pair, from_end)

  pub record Signal (s : Edge) : Type 0 where
    pub at : End
    pub is : IsEnd Notification From at
    pub edge_is : edge (leaf_label t at.end.leaf) AsyncSend (connection_label t at.place) ≡ s

  pub from_signal : (s : Edge) → IsIn s (signal_edges t) → Signal s
  from_signal s i =
      let k = from_gather (λ k (c : FlatConnection). gather (λ n e. signals_at t k c e) c.ends) s t.flat.connections i in
      let n = from_gather (λ n e. signals_at t k.0 k.1 e) s k.1.ends k.3 in
      let v = from_where (same_connector k.1.connector Notification && same_role n.1.role From)
      (edge (leaf_label t n.1.leaf) AsyncSend (connection_label t k.0)) s n.3 in
      let b = and_parts (same_connector k.1.connector Notification) (same_role n.1.role From) v.0 in
      record {
        at = end_in k.0 n.0 k.1 n.1 k.2 n.2;
        is = search (rules, is_connector, is_role);
        edge_is = v.1;
      }

  pub in_signal : (y : End) → IsEnd Notification From y
      → IsIn (edge (leaf_label t y.end.leaf) AsyncSend (connection_label t y.place)) (signal_edges t)
  in_signal y s = search (rules, and_from, is_same_connector, is_same_role, in_gather, in_where)

  record Locked (s : Edge) : Type 0 where
    lock : LockAt t.source t.flat
    is : edge (domain_label t lock.domain) AsyncSend (domain_label t lock.domain) ≡ s

  from_lock : (s : Edge) → IsIn s (lock_edges t) → Locked s
  from_lock s i =
      let g = from_gather (λ l (leaf : Leaf). lock_edge t leaf.domain (list_any is_lock (members_at t.source leaf.component))) s
      t.flat.leaves i in
      go g.0 g.1 g.2 g.1.domain refl g.3
    where
      go : (k : ℕ) (leaf : Leaf) → slice_get t.flat.leaves k ≡ Some leaf → (o : Option ℕ) → leaf.domain ≡ o
          → IsIn s (lock_edge t o (list_any is_lock (members_at t.source leaf.component))) → Locked s
      go k leaf h None e i = absurd i
      go k leaf h (Some d) e i =
          let w = from_where (list_any is_lock (members_at t.source leaf.component))
          (edge (domain_label t d) AsyncSend (domain_label t d)) s i in
          let x = from_any is_lock (members_at t.source leaf.component) w.0 in
          let p = place_of x.0 (members_at t.source leaf.component) x.1 in
          let y = lock_of_member x.0 x.2 in
          record {
            lock = search (rules);
            is = w.1;
          }

  in_lock : (k : LockAt t.source t.flat) → IsIn (edge (domain_label t k.domain) AsyncSend (domain_label t k.domain))
      (lock_edges t)
  in_lock k =
      let own = edge (domain_label t k.domain) AsyncSend (domain_label t k.domain) in
      let ms = members_at t.source k.found.component in
      let any = in_any is_lock (members.Lock k.lock) ms (in_place (members.Lock k.lock) ms k.member k.declared) refl in
      in_gather (λ l (leaf : Leaf). lock_edge t leaf.domain (list_any is_lock (members_at t.source leaf.component))) own
      t.flat.leaves k.leaf k.found k.here
      (subst (λ o. IsIn own (lock_edge t o (list_any is_lock ms))) (sym k.inside) (in_where (list_any is_lock ms) own any))

  -- ---- what a bound interrupt gives

  abbrev signals : List Edge
  signals = signal_edges t ++ lock_edges t

  bind_of : (h s : Edge) → Paired Interrupt Handle h → Signal s → h.from ≡ s.from → BindReason t (edge h.to AsyncSend s.to)
  bind_of h s p x same =
      let l_is : p.l ≡ h.from = ap (λ (z : Edge). z.from) p.is in
      let m_is : p.m ≡ h.to = ap (λ (z : Edge). z.to) p.is in
      let P : ℕ → Type 0 = λ z. Handles t p.l z in
      let from_is : leaf_label t x.at.end.leaf ≡ s.from = ap (λ (z : Edge). z.from) x.edge_is in
      record {
        label = p.l;
        handles = subst P m_is (handles_of p.l p.m p.pair);
        signaller = x.at;
        signals = x.is;
        same = l_is ∙ same ∙ sym from_is;
        authority = refl;
        to = ap (λ (z : Edge). z.to) (sym x.edge_is);
      }

  lock_of : (h s : Edge) → Paired Interrupt Handle h → Locked s → h.from ≡ s.from → LockReason t (edge h.to AsyncSend s.to)
  lock_of h s p x same =
      let own = domain_label t x.lock.domain in
      let l_is : p.l ≡ h.from = ap (λ (z : Edge). z.from) p.is in
      let m_is : p.m ≡ h.to = ap (λ (z : Edge). z.to) p.is in
      let from_is : own ≡ s.from = ap (λ (z : Edge). z.from) x.is in
      let to_is : own ≡ s.to = ap (λ (z : Edge). z.to) x.is in
      let P : ℕ → Type 0 = λ z. Handles t p.l z in
      let Q : ℕ → Type 0 = λ z. Handles t z h.to in
      record {
        handles = subst Q (l_is ∙ same ∙ sym from_is ∙ to_is) (subst P m_is (handles_of p.l p.m p.pair));
        lock = x.lock;
        has = sym to_is;
        authority = refl;
      }

  from_joined : (e : Edge) → IsBound (handle_edges t) signals e → Reason t e
  from_joined e j =
      let by = j.by in
      let p = from_pair Interrupt Handle j.handle j.listed in
      let P : Edge → Type 0 = λ z. Reason t z in
      elim (in_append by.signal (signal_edges t) (lock_edges t) by.listed) [
        | inl i ↦ subst P by.is (by_bind (bind_of j.handle by.signal p (from_signal by.signal i) by.same))
        | inr i ↦ subst P by.is (by_lock (lock_of j.handle by.signal p (from_lock by.signal i) by.same))
      ]

  in_bind : (l : ℕ) (a : Authority) (m : ℕ) → BindReason t (edge l a m) → IsBound (handle_edges t) signals (edge l a m)
  in_bind l a m b =
      let y = b.signaller in
      let s = edge (leaf_label t y.end.leaf) AsyncSend (connection_label t y.place) in
      record {
        handle = edge b.label Handle l;
        listed = in_handles b.label l b.handles;
        by = record {
          signal = s;
          listed = in_left s (signal_edges t) (lock_edges t) (in_signal y b.signals);
          same = b.same;
          is = ap (λ z. edge l AsyncSend z) (sym b.to) ∙ ap (λ z. edge l z m) (sym b.authority);
        };
      }

  in_bound_lock : (l : ℕ) (a : Authority) (m : ℕ) → LockReason t (edge l a m) → IsBound (handle_edges t) signals (edge l a m)
  in_bound_lock l a m b =
      let own = domain_label t b.lock.domain in
      let s = edge own AsyncSend own in
      record {
        handle = edge m Handle l;
        listed = in_handles m l b.handles;
        by = record {
          signal = s;
          listed = in_right s (signal_edges t) (lock_edges t) (in_lock b.lock);
          same = b.has;
          is = ap (λ z. edge l AsyncSend z) (sym b.has) ∙ ap (λ z. edge l z m) (sym b.authority);
        };
      }

  -- ---- all

  abbrev bound : List Edge
  bound = bound_edges (handle_edges t) signals

  abbrev all : List Edge
  all = direct_edges t ++ (reply_edges t ++ bound)

  from_all : (e : Edge) → IsIn e all → Reason t e
  from_all e i = elim (in_append e (direct_edges t) (reply_edges t ++ bound) i) [
    | inl j ↦ by_direct (from_direct e j)
    | inr i ↦ search (rules, in_append, from_reply, from_joined, from_bound)
  ]

  in_all : (l : ℕ) (a : Authority) (m : ℕ) → Reason t (edge l a m) → IsIn (edge l a m) all
  in_all l a m (by_direct d) = in_left (edge l a m) (direct_edges t) (reply_edges t ++ bound) (in_direct (edge l a m) d)
  in_all l a m (by_call c) = in_right (edge l a m) (direct_edges t) (reply_edges t ++ bound)
      (in_left (edge l a m) (reply_edges t) bound (in_reply l a m c))
  in_all l a m (by_bind b) = in_right (edge l a m) (direct_edges t) (reply_edges t ++ bound)
      (in_right (edge l a m) (reply_edges t) bound (in_bound (handle_edges t) signals (edge l a m) (in_bind l a m b)))
  in_all l a m (by_lock b) = in_right (edge l a m) (direct_edges t) (reply_edges t ++ bound)
      (in_right (edge l a m) (reply_edges t) bound (in_bound (handle_edges t) signals (edge l a m) (in_bound_lock l a m b)))

  pub listed : (e : Edge) → IsIn e (triples t) ↔ IsReasoned t e
  listed e = (
    λ i. let w = from_filter leads_out e all i in record { differ = led_out e w.1; reason = from_all e w.0 },
    λ r. in_filter leads_out e all (in_all e.from e.authority e.to r.reason) (leads e r.differ),
  )

pub triples_are_policy : (t : Tables) → IsPolicyOf t (triples t)
triples_are_policy t e = (λ h. (listed t e).0 (has_in e (triples t) h), λ r. in_has e (triples t) ((listed t e).1 r))
