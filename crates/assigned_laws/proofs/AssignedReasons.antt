-- What a source assigns has a reason in its flat system, and the other way round.
use Rattle.std.proofs.Common.{rules}
use Rattle.assigned_laws.proofs.Common.{AreApart, AreDotted, AreNamesSound, ArePathsApart, AtOtherEnd, Authority, BindReason, Bound, CallReason, Called, Cause, Connector, Direct, DirectReason, Edge, EndAt, EndOf, FlatConnection, From, Handles}
use Rattle.assigned_laws.proofs.Common.{IsAssigned, IsEnd, IsNamed, IsReasoned, LabelNumbers, LockReason, Locked, NoObject, None, ObjectKind, OfDevice, OfEndpoint, OfFrames, OfIrq, OfNotification, Path, Reason, Role, Some, Source, Strung, Tables, To}
use Rattle.assigned_laws.proofs.Common.{ap, bound, by_bind, by_call, by_direct, by_lock, called, connection_label, connection_path, connections, direct, domain_label, domain_of, edge, first_type_fault, flat_of, gives, has_label, hierarchy_of}
use Rattle.assigned_laws.proofs.Common.{labelled_endpoint, labelled_frames, labelled_notification, leaf_label, locked, opposite, owner, refl, slice_get, subst, sym, tables_with, true, ℕ, ◌↔◌, ◌∙◌, ◌≡◌}
use Rattle.adl_meaning.specs.declared.connector.Connector.TheVariants.{Interrupt, Notification, Rpc}
use Rattle.arch_policy.specs.Reasons.{AtOtherEnd as FlatOther, Handles as FlatHandles, LeadsTo as FlatLeads}
use Rattle.assigned_laws.specs.Assigned.{LeadsTo}
use Rattle.assigned_laws.proofs.Accesses.{access_left}
use Rattle.assigned_laws.proofs.Joined.{Matches, met, put, strung_at, strung_here}
use Rattle.assigned_laws.proofs.Locks.{lock_at, lock_of}
use Rattle.assigned_laws.proofs.Naming.{connection_named, number_is, path_is}

-- ---- of the table

given_to : (c d : Connector) (r q : Role) (o : ObjectKind) (a : Authority) → c ≡ d → r ≡ q → gives d q o a ≡ true
    → gives c r o a ≡ true
given_to c d r q o a e f h = ap (λ x. gives x r o a) e ∙ ap (λ x. gives d x o a) f ∙ h

module _ (s : Source) (sound : AreNamesSound s) (dotted : AreDotted (hierarchy_of s)) (types : first_type_fault s ≡ None)
    (numbers : LabelNumbers) (apart : AreApart (tables_with s numbers)) where
  abbrev t : Tables
  t = tables_with s numbers

  -- the connector of a matched end, and its role
  same_connector_as : (y : Strung) (x : EndAt (flat_of s)) (e : EndOf (hierarchy_of s) y.path y.wire)
      → Matches s sound dotted numbers y x e → y.wire.0 ≡ x.connection.connector
  same_connector_as y x e w = ap (λ (c : FlatConnection). c.connector) w.connection

  at_place : (k j : ℕ) (y : Strung) → j ≡ k → slice_get (connections (hierarchy_of s)) k ≡ Some y
      → slice_get (connections (hierarchy_of s)) j ≡ Some y
  at_place k j y e h = ap (slice_get (connections (hierarchy_of s))) e ∙ h

  -- ---- from reasons

  cause_direct : (l : ℕ) (a : Authority) (m : ℕ) (p q : Path) → IsNamed t l p → IsNamed t m q → DirectReason t (edge l a m)
      → Direct (hierarchy_of s) p a q
  cause_direct l a m p q np nq d =
      let h = hierarchy_of s in
      let g = strung_at s sound dotted numbers d.at.place d.at.connection d.at.here in let y = g.0 in
      let f = met s sound dotted numbers d.at y g.1 in let e = f.0 in
      let w = f.1 in
      let given = given_to y.wire.0 d.at.connection.connector e.role d.at.end.role d.object a (same_connector_as y d.at e w)
      w.role d.given in
      record {
        composition = y.path;
        connection = y.wire;
        end = e;
        object = d.object;
        given = given;
        allowed = sym (access_left s sound dotted types numbers y d.at e w d.object a given) ∙ d.left;
        from_is = path_is t apart l (leaf_label t d.at.end.leaf) p (owner h e.leaf) d.from np w.named;
        to_is = lead y d.at g.1 e w d.object given d.to;
      } where
        lead : (y : Strung) (x : EndAt (flat_of s)) → slice_get (connections (hierarchy_of s)) x.place ≡ Some y
            → (e : EndOf (hierarchy_of s) y.path y.wire) → Matches s sound dotted numbers y x e → (o : ObjectKind)
            → gives y.wire.0 e.role o a ≡ true → FlatLeads t x o m
            → LeadsTo (hierarchy_of s) y.path y.wire e o q
        lead y x here e w OfEndpoint given to = search (rules, path_is, connection_named, labelled_endpoint)
        lead y x here e w OfNotification given to = search (rules, path_is, connection_named, labelled_notification)
        lead y x here e w OfFrames given to = search (rules, path_is, connection_named, labelled_frames)
        lead y x here e w OfDevice given to = other y x here e w to where
          other : (y : Strung) (x : EndAt (flat_of s)) → slice_get (connections (hierarchy_of s)) x.place ≡ Some y
              → (e : EndOf (hierarchy_of s) y.path y.wire) → Matches s sound dotted numbers y x e → FlatOther t x m
              → AtOtherEnd (hierarchy_of s) y.path y.wire e q
          other y x here e w to =
              let v = met s sound dotted numbers to.at y (at_place x.place to.at.place y to.same here) in
              record {
                other = v.0;
                role = v.1.role ∙ to.role ∙ ap opposite (sym w.role);
                label_is = path_is t apart m (leaf_label t to.at.end.leaf) q (owner (hierarchy_of s) v.0.leaf) to.label_is
                    nq v.1.named;
              }
        lead y x here e w OfIrq given to =
            let v = met s sound dotted numbers to.at y (at_place x.place to.at.place y to.same here) in
            record {
              other = v.0;
              role = v.1.role ∙ to.role ∙ ap opposite (sym w.role);
              label_is = path_is t apart m (leaf_label t to.at.end.leaf) q (owner (hierarchy_of s) v.0.leaf) to.label_is
                  nq v.1.named;
            }
        lead y x here e w NoObject given to = absurd to

  cause_called : (l : ℕ) (a : Authority) (m : ℕ) (p q : Path) → IsNamed t l p → IsNamed t m q → CallReason t (edge l a m)
      → Called (hierarchy_of s) p a q
  cause_called l a m p q np nq c =
      let h = hierarchy_of s in
      let g = strung_at s sound dotted numbers c.caller.place c.caller.connection c.caller.here in
      let y = g.0 in let f = met s sound dotted numbers c.caller y g.1 in
      let v = met s sound dotted numbers c.server y (at_place c.caller.place c.server.place y c.same g.1) in
      record {
        composition = y.path;
        connection = y.wire;
        rpc = same_connector_as y c.caller f.0 f.1 ∙ c.calls.connector;
        caller = f.0;
        calls = f.1.role ∙ c.calls.role;
        server = v.0;
        serves = v.1.role ∙ c.serves.role;
        from_is = path_is t apart l (leaf_label t c.server.end.leaf) p (owner h v.0.leaf) c.from np v.1.named;
        authority = c.authority;
        to_is = path_is t apart m (leaf_label t c.caller.end.leaf) q (owner h f.0.leaf) c.to nq f.1.named;
      }

  cause_handles : (l d : ℕ) (p q : Path) → IsNamed t l p → IsNamed t d q → FlatHandles t l d → Handles (hierarchy_of s) p q
  cause_handles l d p q np nq c =
      let h = hierarchy_of s in
      let g = strung_at s sound dotted numbers c.handler.place c.handler.connection c.handler.here in
      let y = g.0 in let f = met s sound dotted numbers c.handler y g.1 in
      let v = met s sound dotted numbers c.source y (at_place c.handler.place c.source.place y c.same g.1) in
      record {
        composition = y.path;
        connection = y.wire;
        interrupt = same_connector_as y c.handler f.0 f.1 ∙ c.handles.connector;
        handler = f.0;
        handles = f.1.role ∙ c.handles.role;
        source = v.0;
        interrupts = v.1.role ∙ c.interrupts.role;
        label_is = path_is t apart l (leaf_label t c.handler.end.leaf) p (owner h f.0.leaf) c.label_is np f.1.named;
        device_is = path_is t apart d (leaf_label t c.source.end.leaf) q (owner h v.0.leaf) c.device_is nq v.1.named;
      }

  cause_bound : (l : ℕ) (a : Authority) (m : ℕ) (p q : Path) → IsNamed t l p → IsNamed t m q → BindReason t (edge l a m)
      → Bound (hierarchy_of s) p a q
  cause_bound l a m p q np nq b =
      let h = hierarchy_of s in
      let g = strung_at s sound dotted numbers b.signaller.place b.signaller.connection b.signaller.here in
      let y = g.0 in let f = met s sound dotted numbers b.signaller y g.1 in
      let domain = owner h f.0.leaf in
      let notification : y.wire.0 ≡ Notification = same_connector_as y b.signaller f.0 f.1 ∙ b.signals.connector in
      let named : IsNamed t b.label domain = subst (λ z. IsNamed t z domain) (sym b.same) f.1.named in
      record {
        domain = domain;
        handles = cause_handles b.label l domain p named np b.handles;
        composition = y.path;
        connection = y.wire;
        notification = notification;
        signaller = f.0;
        signals = f.1.role ∙ b.signals.role;
        same = refl;
        authority = b.authority;
        to_is = path_is t apart m (connection_label t b.signaller.place) q (connection_path y.path y.wire) b.to nq
            (connection_named s numbers y b.signaller.place g.1 (ap has_label notification));
      }

  cause_locked : (l : ℕ) (a : Authority) (m : ℕ) (p q : Path) → IsNamed t l p → IsNamed t m q → LockReason t (edge l a m)
      → Locked (hierarchy_of s) p a q
  cause_locked l a m p q np nq b =
      let k = lock_of s sound numbers b.lock in
      record {
        handles = cause_handles m l q p nq np b.handles;
        lock = k.0;
        has = path_is t apart m (domain_label t b.lock.domain) q (domain_of (hierarchy_of s) k.0.leaf) b.has nq k.1;
        authority = b.authority;
      }

  cause : (l : ℕ) (a : Authority) (m : ℕ) (p q : Path) → IsNamed t l p → IsNamed t m q → Reason t (edge l a m)
      → Cause (hierarchy_of s) p a q
  cause l a m p q np nq (by_direct d) = direct (cause_direct l a m p q np nq d)
  cause l a m p q np nq (by_call c) = called (cause_called l a m p q np nq c)
  cause l a m p q np nq (by_bind b) = bound (cause_bound l a m p q np nq b)
  cause l a m p q np nq (by_lock b) = locked (cause_locked l a m p q np nq b)

  -- ---- to reasons

  record Reasoned (R : Edge → Type 0) (p : Path) (a : Authority) (q : Path) : Type 0 where
    l : ℕ
    m : ℕ
    np : IsNamed t l p
    nq : IsNamed t m q
    reason : R (edge l a m)

  record Leading (x : EndAt (flat_of s)) (o : ObjectKind) (q : Path) : Type 0 where
    m : ℕ
    nq : IsNamed t m q
    to : FlatLeads t x o m

  record Handled (p : Path) (q : Path) : Type 0 where
    l : ℕ
    d : ℕ
    np : IsNamed t l p
    nq : IsNamed t d q
    handles : FlatHandles t l d

  reason_direct : (p : Path) (a : Authority) (q : Path) → Direct (hierarchy_of s) p a q → Reasoned (DirectReason t) p a q
  reason_direct p a q d =
      let h = hierarchy_of s in let g = strung_here s sound dotted numbers d.composition d.connection d.end in
      let y : Strung = record { path = d.composition; inside = g.1; wire = d.connection } in
      let f = put s sound dotted numbers y g.0 g.2 d.end in let x = f.0 in
      let w = f.2 in let l = leaf_label t x.end.leaf in
      let lead = leading y g.0 g.2 d.end x f.1 w d.object d.given d.to_is in
      record {
        l = l;
        m = lead.m;
        np = subst (λ z. IsNamed t l z) (sym d.from_is) w.named;
        nq = lead.nq;
        reason = record {
          at = x;
          object = d.object;
          given = given_to x.connection.connector d.connection.0 x.end.role d.end.role d.object a
              (sym (same_connector_as y x d.end w)) (sym w.role) d.given;
          left = access_left s sound dotted types numbers y x d.end w d.object a d.given ∙ d.allowed;
          from = refl;
          to = lead.to;
        };
      } where
        leading : (y : Strung) (k : ℕ) → slice_get (connections (hierarchy_of s)) k ≡ Some y
            → (e : EndOf (hierarchy_of s) y.path y.wire) (x : EndAt (flat_of s)) → x.place ≡ k
            → Matches s sound dotted numbers y x e → (o : ObjectKind) → gives y.wire.0 e.role o a ≡ true
            → LeadsTo (hierarchy_of s) y.path y.wire e o q → Leading x o q
        leading y k here e x at w OfEndpoint given to = search (rules, connection_named, labelled_endpoint)
        leading y k here e x at w OfNotification given to = search (rules, connection_named, labelled_notification)
        leading y k here e x at w OfFrames given to = search (rules, connection_named, labelled_frames)
        leading y k here e x at w NoObject given to = absurd to
        leading y k here e x at w _ given to =
            let v = put s sound dotted numbers y k here to.other in
            record {
              m = leaf_label t v.0.end.leaf;
              nq = subst (λ z. IsNamed t (leaf_label t v.0.end.leaf) z) (sym to.label_is) v.2.named;
              to = record { at = v.0; same = v.1 ∙ sym at; role = sym v.2.role ∙ to.role ∙ ap opposite w.role; label_is = refl };
            }

  -- an end as it is asked for
  is_end : (c : Connector) (r : Role) (y : Strung) (x : EndAt (flat_of s)) (e : EndOf (hierarchy_of s) y.path y.wire)
      → Matches s sound dotted numbers y x e → y.wire.0 ≡ c → e.role ≡ r → IsEnd c r x
  is_end c r y x e w a b = record { connector = sym (same_connector_as y x e w) ∙ a; role = sym w.role ∙ b }

  reason_called : (p : Path) (a : Authority) (q : Path) → Called (hierarchy_of s) p a q → Reasoned (Reason t) p a q
  reason_called p a q c =
      let g = strung_here s sound dotted numbers c.composition c.connection c.caller in
      let y : Strung = record { path = c.composition; inside = g.1; wire = c.connection } in
      let f = put s sound dotted numbers y g.0 g.2 c.caller in
      let v = put s sound dotted numbers y g.0 g.2 c.server in
      record {
        l = leaf_label t v.0.end.leaf;
        m = leaf_label t f.0.end.leaf;
        np = subst (λ z. IsNamed t (leaf_label t v.0.end.leaf) z) (sym c.from_is) v.2.named;
        nq = subst (λ z. IsNamed t (leaf_label t f.0.end.leaf) z) (sym c.to_is) f.2.named;
        reason = by_call (record {
          caller = f.0;
          calls = is_end Rpc From y f.0 c.caller f.2 c.rpc c.calls;
          server = v.0;
          serves = is_end Rpc To y v.0 c.server v.2 c.rpc c.serves;
          same = v.1 ∙ sym f.1;
          from = refl;
          authority = c.authority;
          to = refl;
        });
      }

  reason_handles : (p q : Path) → Handles (hierarchy_of s) p q → Handled p q
  reason_handles p q c =
      let g = strung_here s sound dotted numbers c.composition c.connection c.handler in
      let y : Strung = record { path = c.composition; inside = g.1; wire = c.connection } in
      let f = put s sound dotted numbers y g.0 g.2 c.handler in
      let v = put s sound dotted numbers y g.0 g.2 c.source in
      record {
        l = leaf_label t f.0.end.leaf;
        d = leaf_label t v.0.end.leaf;
        np = subst (λ z. IsNamed t (leaf_label t f.0.end.leaf) z) (sym c.label_is) f.2.named;
        nq = subst (λ z. IsNamed t (leaf_label t v.0.end.leaf) z) (sym c.device_is) v.2.named;
        handles = record {
          handler = f.0;
          handles = is_end Interrupt To y f.0 c.handler f.2 c.interrupt c.handles;
          source = v.0;
          interrupts = is_end Interrupt From y v.0 c.source v.2 c.interrupt c.interrupts;
          same = v.1 ∙ sym f.1;
          label_is = refl;
          device_is = refl;
        };
      }

  reason_bound : ArePathsApart (flat_of s) → (p : Path) (a : Authority) (q : Path) → Bound (hierarchy_of s) p a q
      → Reasoned (Reason t) p a q
  reason_bound paths p a q b =
      let h = hierarchy_of s in let k = reason_handles b.domain p b.handles in
      let g = strung_here s sound dotted numbers b.composition b.connection b.signaller in
      let y : Strung = record { path = b.composition; inside = g.1; wire = b.connection } in
      let f = put s sound dotted numbers y g.0 g.2 b.signaller in let x = f.0 in
      record {
        l = k.d;
        m = connection_label t x.place;
        np = k.nq;
        nq = subst (λ z. IsNamed t (connection_label t x.place) z) (sym b.to_is) (connection_named s numbers y x.place f.2.here
            (ap has_label b.notification));
        reason = by_bind (record {
          label = k.l;
          handles = k.handles;
          signaller = x;
          signals = is_end Notification From y x b.signaller f.2 b.notification b.signals;
          same = number_is t paths k.l (leaf_label t x.end.leaf) b.domain (owner h b.signaller.leaf) b.same k.np f.2.named;
          authority = b.authority;
          to = refl;
        });
      }

  reason_locked : ArePathsApart (flat_of s) → (p : Path) (a : Authority) (q : Path) → Locked (hierarchy_of s) p a q
      → Reasoned (Reason t) p a q
  reason_locked paths p a q b =
      let k = reason_handles q p b.handles in let o = lock_at s sound numbers b.lock in
      record {
        l = k.d;
        m = k.l;
        np = k.nq;
        nq = k.np;
        reason = by_lock (record {
          handles = k.handles;
          lock = o.0;
          has = number_is t paths k.l (domain_label t o.0.domain) q (domain_of (hierarchy_of s) b.lock.leaf) b.has k.np o.1;
          authority = b.authority;
        });
      }

  reasoned : ArePathsApart (flat_of s) → (p : Path) (a : Authority) (q : Path) → Cause (hierarchy_of s) p a q
      → Reasoned (Reason t) p a q
  reasoned paths p a q (direct d) =
      let r = reason_direct p a q d in
      record { l = r.l; m = r.m; np = r.np; nq = r.nq; reason = by_direct r.reason }
  reasoned paths p a q (called c) = reason_called p a q c
  reasoned paths p a q (bound b) = reason_bound paths p a q b
  reasoned paths p a q (locked b) = reason_locked paths p a q b

  pub assigned_reasoned : ArePathsApart (flat_of s) → (p : Path) (a : Authority) (q : Path) → IsAssigned s p a q
      ↔ ((l m : ℕ) × IsNamed t l p × IsNamed t m q × IsReasoned t (edge l a m))
  assigned_reasoned paths p a q = (
    λ h.
        let r = reasoned paths p a q h.cause in
        (r.l, r.m, r.np, r.nq, record { differ = λ e. h.differ (path_is t apart r.l r.m p q e r.np r.nq); reason = r.reason }),
    λ r. record {
      differ = λ e. r.4.differ (number_is t paths r.0 r.1 p q e r.2 r.3);
      cause = cause r.0 a r.1 p q r.2 r.3 r.4.reason;
    },
  )

  pub direct_reasoned : (p : Path) (a : Authority) (q : Path) → Direct (hierarchy_of s) p a q
      ↔ ((l m : ℕ) × IsNamed t l p × IsNamed t m q × DirectReason t (edge l a m))
  direct_reasoned p a q = (
    λ h. let r = reason_direct p a q h in (r.l, r.m, r.np, r.nq, r.reason),
    λ r. cause_direct r.0 a r.1 p q r.2 r.3 r.4,
  )
