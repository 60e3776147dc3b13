-- What is reached has a reason, and what has a reason is reached.
use Rattle.reach_laws.proofs.Common.{AreApart, AsyncSend, Authority, Call, Connector, DirectReason, EndAt, From, Handle, Handles, Held, Interrupt, IsEnd, IsFlat, IsLaidOut, IsReasoned, List, ObjectKind, OfEndpoint, OfIrq, OfNotification, Reaches}
use Rattle.reach_laws.proofs.Common.{Reason, Receive, Reply, Role, Rpc, Spec, Tables, To, [], ap, boot, by_bind, by_call, by_direct, by_lock, connection_label, edge, gives, leaf_label, opposite, refl, subst, sym, triples, triples_are_policy, true, ℕ}
use Rattle.reach_laws.proofs.Common.{◌↔◌, ◌∙◌, ◌≡◌, ◌≢◌}
use Rattle.adl_meaning.specs.declared.connector.Connector.TheVariants.{Notification}
use Rattle.arch_policy.specs.Gives.{leaves}
use Rattle.arch_policy.specs.Reasons.{LeadsTo}
use Rattle.cspace_layout.specs.Lookups.{setting_of}
use Rattle.cert_check.proofs.Keeps.{runs_stay}
use Rattle.reach_laws.proofs.FirstSteps.{bind_reached, call_reached}
use Rattle.reach_laws.proofs.AtBoot.{Signals, held, held_signal}
use Rattle.reach_laws.proofs.EndLabels.{domain_no_connection, domain_no_device, end_domain, handler_domain, source_device, there_end}
use Rattle.reach_laws.proofs.OwnEdges.{certificate, certificate_is}
use Rattle.reach_laws.proofs.ValidCertificates.{valid}

given_as : (c : Connector) (r : Role) (d : Connector) (q : Role) (o : ObjectKind) (a : Authority) → c ≡ d → r ≡ q
    → gives d q o a ≡ true → gives c r o a ≡ true
given_as c r d q o a e f h = ap (λ x. gives x r o a) e ∙ ap (λ x. gives d x o a) f ∙ h

-- ---- direct reasons

module _ (t : Tables) where
  -- what an end's role gives on an object of its connection, of an authority that its setting leaves
  end_reason : (x : EndAt t.flat) (c : Connector) (r : Role) (o : ObjectKind) (a : Authority) → IsEnd c r x
      → gives c r o a ≡ true → leaves (setting_of t.settled x.place x.number) a ≡ true
      → LeadsTo t x o (connection_label t x.place)
      → DirectReason t (edge (leaf_label t x.end.leaf) a (connection_label t x.place))
  end_reason x c r o a is given left to = record {
    at = x;
    object = o;
    given = given_as x.connection.connector x.end.role c r o a is.connector is.role given;
    left = left;
    from = refl;
    to = to;
  }

  pub caller_reason : (x : EndAt t.flat) → IsEnd Rpc From x
      → DirectReason t (edge (leaf_label t x.end.leaf) Call (connection_label t x.place))
  caller_reason x is = end_reason x Rpc From OfEndpoint Call is refl refl refl

  pub server_reason : (x : EndAt t.flat) → IsEnd Rpc To x
      → DirectReason t (edge (leaf_label t x.end.leaf) Receive (connection_label t x.place))
  server_reason x is = end_reason x Rpc To OfEndpoint Receive is refl refl refl

  pub signaller_reason : (x : EndAt t.flat) → IsEnd Notification From x
      → DirectReason t (edge (leaf_label t x.end.leaf) AsyncSend (connection_label t x.place))
  signaller_reason x is = end_reason x Notification From OfNotification AsyncSend is refl refl refl

  pub handler_reason : (l d : ℕ) → Handles t l d → DirectReason t (edge l Handle d)
  handler_reason l d h =
      record {
        at = h.handler;
        object = OfIrq;
        given = given_as h.handler.connection.connector h.handler.end.role Interrupt To OfIrq Handle h.handles.connector
            h.handles.role refl;
        left = refl;
        from = h.label_is;
        to = record {
          at = h.source;
          same = h.same;
          role = h.interrupts.role ∙ ap opposite (sym h.handles.role);
          label_is = h.device_is;
        };
      }

-- ---- what is held at boot

module _ (t : Tables) (spec : Spec) (labels : List ℕ) (flat : IsFlat t.source t.flat) (apart : AreApart t)
    (laid : IsLaidOut t spec labels) where
  pub calls : (x : EndAt t.flat) → IsEnd Rpc From x → Held spec labels (boot spec) (leaf_label t x.end.leaf) Call
      (connection_label t x.place)
  calls x is =
      let differ = domain_no_connection t apart x.place (end_domain t flat Rpc From x is refl) (there_end t Rpc From x is refl) in
      held spec labels laid.arranged.kept _ Call _ refl (λ e. cc) ((laid.direct _ Call _ differ).1 (caller_reason t x is))

  pub receives : (x : EndAt t.flat) → IsEnd Rpc To x → Held spec labels (boot spec) (leaf_label t x.end.leaf) Receive
      (connection_label t x.place)
  receives x is =
      let differ = domain_no_connection t apart x.place (end_domain t flat Rpc To x is refl) (there_end t Rpc To x is refl) in
      held spec labels laid.arranged.kept _ Receive _ refl (λ e. cc) ((laid.direct _ Receive _ differ).1 (server_reason t x is))

  pub handles : (l d : ℕ) → Handles t l d → Held spec labels (boot spec) l Handle d
  handles l d h =
      let device = source_device t flat h in
      let differ : l ≢ d = λ e. domain_no_device t apart (handler_domain t flat h) (record {
        device = device.device;
        there = device.there;
        is = e ∙ device.is;
      }) in
      held spec labels laid.arranged.kept l Handle d refl (λ e. cc) ((laid.direct l Handle d differ).1 (handler_reason t l d h))

  -- a label that handles an interrupt has a CNode, so it is no interrupt's
  pub signals : (l d : ℕ) (x : EndAt t.flat) → Handles t l d → IsEnd Notification From x → l ≡ leaf_label t x.end.leaf
      → Held spec labels (boot spec) l AsyncSend (connection_label t x.place)
  signals l d x h is e =
      let mine = end_domain t flat Notification From x is refl in
      let differ : l ≢ connection_label t x.place = λ same. domain_no_connection t apart x.place mine
      (there_end t Notification From x is refl) (sym e ∙ same) in
      let reason : DirectReason t (edge l AsyncSend (connection_label t x.place)) =
      subst (λ z. DirectReason t (edge z AsyncSend (connection_label t x.place))) (sym e) (signaller_reason t x is) in
      held_signal spec labels laid.arranged.kept l (connection_label t x.place) (no_signal (handles l d h))
      ((laid.direct l AsyncSend _ differ).1 reason) where
        no_signal : Held spec labels (boot spec) l Handle d → Signals spec labels laid.arranged.kept l → ⊥
        no_signal (c, i, cap, there, conf, from, to) s = laid.signals c i s.irq s.notification cap there s.bound (sym from ∙ s.is)

  -- ---- what has a reason is reached

  by_reason : (l : ℕ) (a : Authority) (m : ℕ) → l ≢ m → Reason t (edge l a m) → Reaches spec labels l a m
  by_reason l a m differ (by_direct d) = ([], boot spec, refl, (laid.direct l a m differ).1 d)
  by_reason l a m differ (by_call c) =
      let s = leaf_label t c.caller.end.leaf in let r = leaf_label t c.server.end.leaf in
      let e = connection_label t c.caller.place in
      let hear : Held spec labels (boot spec) r Receive e = subst (λ z. Held spec labels (boot spec) r Receive z)
      (ap (connection_label t) c.same) (receives c.server c.serves) in
      let other : s ≢ r = λ same. differ (c.from ∙ sym same ∙ sym c.to) in
      let reached = call_reached spec labels laid.arranged s e r (calls c.caller c.calls) hear other in
      subst (λ x. Reaches spec labels l x m) (sym c.authority) (subst (λ x. Reaches spec labels x Reply m) (sym c.from)
      (subst (λ x. Reaches spec labels r Reply x) (sym c.to) reached))
  by_reason l a m differ (by_bind b) =
      let reached = bind_reached spec labels laid.arranged b.label l (connection_label t b.signaller.place)
      (handles b.label l b.handles) (signals b.label l b.signaller b.handles b.signals b.same) in
      subst (λ x. Reaches spec labels l x m) (sym b.authority) (subst (λ x. Reaches spec labels l AsyncSend x) (sym b.to) reached)
  by_reason l a m differ (by_lock b) =
      let own : Held spec labels (boot spec) m AsyncSend m =
      (laid.own m AsyncSend).1 (record { lock = b.lock; from = b.has; conferred = refl; to = b.has }) in
      let reached = bind_reached spec labels laid.arranged m l m (handles m l b.handles) own in
      subst (λ x. Reaches spec labels l x m) (sym b.authority) reached

  pub reasoned_reached : (l : ℕ) (a : Authority) (m : ℕ) → IsReasoned t (edge l a m) → Reaches spec labels l a m
  reasoned_reached l a m r = by_reason l a m r.differ r.reason

pub exactly_reached : (t : Tables) (spec : Spec) (labels : List ℕ) → IsFlat t.source t.flat → AreApart t → IsLaidOut t spec labels
    → (l : ℕ) (a : Authority) (m : ℕ) → l ≢ m → Reaches spec labels l a m ↔ IsReasoned t (edge l a m)
exactly_reached t spec labels flat apart laid l a m differ = (
  λ reach.
      let v = valid t spec labels (triples t) (certificate t) flat apart laid (triples_are_policy t) (certificate_is t) in
      (triples_are_policy t (edge l a m)).0 (runs_stay spec labels (triples t) (certificate t) v l a m reach differ),
  λ r. reasoned_reached t spec labels flat apart laid l a m r,
)
