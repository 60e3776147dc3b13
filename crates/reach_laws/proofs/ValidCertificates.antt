-- The certificate of a system keeps the rules.
use Rattle.reach_laws.proofs.Common.{AreApart, AsyncSend, AtOtherEnd, Authority, Call, Connector, Control, DirectReason, Edge, EndAt, From, Grant, GrantBack, Handle, Handles, Has, Held, IsCertificateOf, IsEnd, IsFlat, IsLaidOut, IsLockEdge}
use Rattle.reach_laws.proofs.Common.{IsPolicyOf, IsReasoned, LeadsTo, List, ObjectKind, OfEndpoint, OfNotification, RW, Reason, Receive, Reply, Role, Rpc, Spec, Structural, Tables, Valid, ap, boot, by_bind, by_call, by_direct, by_lock, cases_eq}
use Rattle.reach_laws.proofs.Common.{connection_label, edge, gives, has_label, inl, inr, kind_confers, leaf_label, opposite, refl, rules, subst, sym, true, true≢false, ℕ, ◌∙◌, ◌≡◌, ◌≢◌, ◌⊎◌}
use Rattle.adl_meaning.specs.declared.flat.FlatConnection.{FlatConnection}
use Rattle.cap_model.specs.declared.kind.Kind.TheVariants as kinds
use Rattle.reach_laws.proofs.Given.{no_control, no_grant, no_grant_back, who_calls, who_handles, who_receives, who_signals}
use Rattle.reach_laws.proofs.EndLabels.{IsDomains, domain_no_connection, domain_no_device, handler_domain, lock_domain, one_connection, same_connection, source_device, there_connection, end_device}

-- ---- what a direct reason says

-- a receiver's edge leads to its connection
pub receiver_leads : (t : Tables) (x : EndAt t.flat) (o : ObjectKind) (label : ℕ) → (o ≡ OfEndpoint) ⊎ (o ≡ OfNotification)
    → LeadsTo t x o label → label ≡ connection_label t x.place
receiver_leads t x o label (inl e) h = subst (λ z. LeadsTo t x z label) e h
receiver_leads t x o label (inr e) h = subst (λ z. LeadsTo t x z label) e h

-- a handler's edge leads to the device at the other end
pub handler_leads : (t : Tables) (e : Edge) → e.authority ≡ Handle → DirectReason t e → Handles t e.from e.to
handler_leads t e a d =
    let w = who_handles d.at.connection.connector d.at.end.role d.object
    (subst (λ z. gives d.at.connection.connector d.at.end.role d.object z ≡ true) a d.given) in
    let other : AtOtherEnd t d.at e.to = subst (λ z. LeadsTo t d.at z e.to) w.2 d.to in
    let same = same_connection t d.at other.at other.same in
    record {
      handler = d.at;
      handles = record { connector = w.0; role = w.1 };
      source = other.at;
      interrupts = record {
        connector = ap (λ (c : FlatConnection). c.connector) same ∙ w.0;
        role = other.role ∙ ap opposite w.1;
      };
      same = other.same;
      label_is = d.from;
      device_is = other.label_is;
    }

module _ (t : Tables) (spec : Spec) (labels : List ℕ) (policy : List Edge) (cert : List Edge) (flat : IsFlat t.source t.flat)
    (apart : AreApart t) (laid : IsLaidOut t spec labels) (is_policy : IsPolicyOf t policy)
    (is_cert : IsCertificateOf t cert) where
  have : (l : ℕ) (a : Authority) (m : ℕ) → Has cert l a m → IsReasoned t (edge l a m) ⊎ IsLockEdge t (edge l a m)
  have l a m h = (is_cert (edge l a m)).0 h

  put : (l : ℕ) (a : Authority) (m : ℕ) → IsReasoned t (edge l a m) ⊎ IsLockEdge t (edge l a m) → Has cert l a m
  put l a m h = (is_cert (edge l a m)).1 h

  reasoned : (l : ℕ) (a : Authority) (m : ℕ) → l ≢ m → Reason t (edge l a m) → Has cert l a m
  reasoned l a m differ r = put l a m (inl (record { differ = differ; reason = r }))

  -- an authority that no end is given, and none comes to
  never : (l : ℕ) (a : Authority) (m : ℕ) → ((c : Connector) (r : Role) (o : ObjectKind) → gives c r o a ≡ true → ⊥) → a ≢ Reply
      → a ≢ AsyncSend → kind_confers kinds.Notification RW a ≢ true → Has cert l a m → ⊥
  never l a m none no_reply no_signal no_lock h = search (rules, have)

  no_controls : (l m : ℕ) → Has cert l Control m → ⊥
  no_controls l m h = never l Control m no_control (λ e. cc) (λ e. cc) (λ e. true≢false (sym e)) h

  -- what neither comes by a call nor by a binding is direct
  direct_of : (l : ℕ) (a : Authority) (m : ℕ) → a ≢ Reply → a ≢ AsyncSend → Reason t (edge l a m) → DirectReason t (edge l a m)
  direct_of l a m no_reply no_signal (by_direct d) = d
  direct_of l a m no_reply no_signal (by_call c) = absurd (no_reply c.authority)
  direct_of l a m no_reply no_signal (by_bind b) = absurd (no_signal b.authority)
  direct_of l a m no_reply no_signal (by_lock b) = absurd (no_signal b.authority)

  -- ---- the boot edges

  boot_held : (l : ℕ) (a : Authority) (m : ℕ) → Held spec labels (boot spec) l a m → Has cert l a m
  boot_held l a m h = elim (cases_eq l m) [
    | inl same ↦
        let own : Held spec labels (boot spec) l a l = subst (λ z. Held spec labels (boot spec) l a z) (sym same) h in
        subst (λ z. Has cert l a z) same (put l a l (inr ((laid.own l a).0 own)))
    | inr differ ↦ reasoned l a m differ (by_direct ((laid.direct l a m differ).0 (inl h)))
  ]

  boot_structural : (l : ℕ) (a : Authority) (m : ℕ) → Structural spec labels (boot spec) l a m → l ≢ m → Has cert l a m
  boot_structural l a m h differ = reasoned l a m differ (by_direct ((laid.direct l a m differ).0 (inr h)))

  -- ---- calls

  record Called (s : ℕ) (e : ℕ) : Type 0 where
    at : EndAt t.flat
    is : IsEnd Rpc From at
    from : s ≡ leaf_label t at.end.leaf
    to : e ≡ connection_label t at.place

  call_of : (s e : ℕ) → Has cert s Call e → Called s e
  call_of s e h = elim (have s Call e h) [
    | inl r ↦
        let d = direct_of s Call e (λ e. cc) (λ e. cc) r.reason in
        let w = who_calls d.at.connection.connector d.at.end.role d.object d.given in
        record {
          at = d.at;
          is = record { connector = w.0; role = w.1 };
          from = d.from;
          to = receiver_leads t d.at d.object e (inl w.2) d.to;
        }
    | inr k ↦ absurd (true≢false (sym k.conferred))
  ]

  call : (s e r : ℕ) → Has cert s Call e → Has cert r Receive e → s ≢ r → Has cert r Reply s
  call s e r h k differ =
      let c = call_of s e h in
      let called = there_connection t c.at (ap (λ x. has_label x) c.is.connector) in
      elim (have r Receive e k) [
        | inl q ↦
            let d = direct_of r Receive e (λ e. cc) (λ e. cc) q.reason in
            let w = who_receives d.at.connection.connector d.at.end.role d.object d.given in
            let there = there_connection t d.at w.labelled in
            let place : d.at.place ≡ c.at.place = one_connection t apart d.at.place c.at.place there called
            (sym (receiver_leads t d.at d.object e w.object d.to) ∙ c.to) in
            let same = same_connection t c.at d.at place in
            reasoned r Reply s (λ e. differ (sym e)) (by_call (record {
              caller = c.at;
              calls = c.is;
              server = d.at;
              serves = record { connector = ap (λ (x : FlatConnection). x.connector) same ∙ c.is.connector; role = w.role };
              same = place;
              from = d.from;
              authority = refl;
              to = c.from;
            }))
        | inr lock ↦
            absurd (domain_no_connection t apart c.at.place (record {
              domain = lock.lock.domain;
              there = lock_domain t flat lock.lock;
              is = lock.to;
            }) called c.to)
      ]

  -- ---- bindings

  handler_of : (s d : ℕ) → Has cert s Handle d → Handles t s d
  handler_of s d h = elim (have s Handle d h) [
    | inl r ↦ handler_leads t (edge s Handle d) refl (direct_of s Handle d (λ e. cc) (λ e. cc) r.reason)
    | inr k ↦ absurd (true≢false (sym k.conferred))
  ]

  bind : (s d n : ℕ) → Has cert s Handle d → Has cert s AsyncSend n → d ≢ n → Has cert d AsyncSend n
  bind s d n h k differ =
      let g = handler_of s d h in let mine = handler_domain t flat g in
      elim (have s AsyncSend n k) [
        | inl r ↦ by_reason g mine r.reason
        | inr lock ↦
            let own : n ≡ s = lock.to ∙ sym lock.from in
            reasoned d AsyncSend n differ (by_lock (record {
              handles = subst (λ z. Handles t z d) (sym own) g;
              lock = lock.lock;
              has = lock.to;
              authority = refl;
            }))
      ] where
        by_reason : Handles t s d → IsDomains t s → Reason t (edge s AsyncSend n) → Has cert d AsyncSend n
        by_reason g mine (by_direct f) =
            let w = who_signals f.at.connection.connector f.at.end.role f.object f.given in
            elim w.0 [
              | inl notifies ↦ reasoned d AsyncSend n differ (by_bind (record {
                label = s;
                handles = g;
                signaller = f.at;
                signals = record { connector = notifies; role = w.1 };
                same = f.from;
                authority = refl;
                to = receiver_leads t f.at f.object n (inr w.2) f.to;
              }))
              | inr interrupt ↦
                  let device = end_device t flat f.at (record { connector = interrupt; role = w.1 }) in
                  absurd (domain_no_device t apart mine (record {
                    device = device.device;
                    there = device.there;
                    is = f.from ∙ device.is;
                  }))
            ]
        by_reason g mine (by_call c) = absurd (let w = c.authority in cc)
        by_reason g mine (by_bind b) = absurd (domain_no_device t apart mine (source_device t flat b.handles))
        by_reason g mine (by_lock b) = absurd (domain_no_device t apart mine (source_device t flat b.handles))

  -- ---- the policy

  in_policy : (l : ℕ) (a : Authority) (m : ℕ) → Has cert l a m → l ≢ m → Has policy l a m
  in_policy l a m h differ = search (rules, have)

  pub valid : Valid spec labels policy cert
  valid = record {
    boot_held = boot_held;
    boot_structural = boot_structural;
    control_out = λ l m h. absurd (no_controls l m h);
    control_back = λ l m h. absurd (no_controls l m h);
    grant = λ s e r h k. absurd (never s Grant e no_grant (λ e. cc) (λ e. cc) (λ e. true≢false (sym e)) h);
    call = call;
    grant_back = λ s e r h k. absurd (never r GrantBack e no_grant_back (λ e. cc) (λ e. cc) (λ e. true≢false (sym e)) k);
    bind = bind;
    in_policy = in_policy;
  }
