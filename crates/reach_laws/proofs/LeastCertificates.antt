-- The certificate of a system is the least valid one.
use Rattle.reach_laws.proofs.Common.{AreApart, AsyncSend, Auth, Authority, Edge, Has, Held, IsCertificateOf, IsFlat, IsLaidOut, IsLockEdge, List, Reason, Receive, Reply, Spec, Tables, Valid, ap, boot, by_bind, by_call, by_direct, by_lock}
use Rattle.reach_laws.proofs.Common.{connection_label, edge, inl, inr, leaf_label, refl, rules, subst, sym, ℕ, ◌∙◌, ◌≡◌, ◌≢◌}
use Rattle.reach_laws.proofs.Reached.{calls, handles, receives, signals}

module _ (t : Tables) (spec : Spec) (labels : List ℕ) (flat : IsFlat t.source t.flat) (apart : AreApart t)
    (laid : IsLaidOut t spec labels) (policy : List Edge) (other : List Edge) (v : Valid spec labels policy other) where
  has_boot : (l : ℕ) (a : Authority) (m : ℕ) → l ≢ m → Auth spec labels (boot spec) l a m → Has other l a m
  has_boot l a m differ (inl h) = v.boot_held l a m h
  has_boot l a m differ (inr s) = v.boot_structural l a m s differ

  has_own : (l : ℕ) (a : Authority) (m : ℕ) → IsLockEdge t (edge l a m) → Has other l a m
  has_own l a m k =
      let same : l ≡ m = k.from ∙ sym k.to in
      let own : IsLockEdge t (edge l a l) = record { lock = k.lock; from = k.from; conferred = k.conferred; to = k.from } in
      subst (λ z. Has other l a z) same (v.boot_held l a l ((laid.own l a).1 own))

  has_reason : (l : ℕ) (a : Authority) (m : ℕ) → l ≢ m → Reason t (edge l a m) → Has other l a m
  has_reason l a m differ (by_direct d) = has_boot l a m differ ((laid.direct l a m differ).1 d)
  has_reason l a m differ (by_call c) =
      let s = leaf_label t c.caller.end.leaf in let r = leaf_label t c.server.end.leaf in
      let e = connection_label t c.caller.place in
      let hear : Has other r Receive e =
      v.boot_held r Receive e (subst (λ z. Held spec labels (boot spec) r Receive z) (ap (connection_label t) c.same)
      (receives t spec labels flat apart laid c.server c.serves)) in
      let reply = v.call s e r (v.boot_held s _ e (calls t spec labels flat apart laid c.caller c.calls)) hear
      (λ same. differ (c.from ∙ sym same ∙ sym c.to)) in
      subst (λ x. Has other l x m) (sym c.authority) (subst (λ x. Has other x Reply m) (sym c.from)
      (subst (λ x. Has other r Reply x) (sym c.to) reply))
  has_reason l a m differ (by_bind b) =
      let n = connection_label t b.signaller.place in
      let sent = v.bind b.label l n (v.boot_held b.label _ l (handles t spec labels flat apart laid b.label l b.handles))
      (v.boot_held b.label AsyncSend n (signals t spec labels flat apart laid b.label l b.signaller b.handles b.signals
      b.same)) (λ e. differ (e ∙ sym b.to)) in
      subst (λ x. Has other l x m) (sym b.authority) (subst (λ x. Has other l AsyncSend x) (sym b.to) sent)
  has_reason l a m differ (by_lock b) =
      let own = has_own m AsyncSend m (record { lock = b.lock; from = b.has; conferred = refl; to = b.has }) in
      let sent = v.bind m l m (v.boot_held m _ l (handles t spec labels flat apart laid m l b.handles)) own differ in
      subst (λ x. Has other l x m) (sym b.authority) sent

pub least : (t : Tables) (spec : Spec) (labels : List ℕ) (cert : List Edge) → IsFlat t.source t.flat → AreApart t
    → IsLaidOut t spec labels → IsCertificateOf t cert
    → (policy other : List Edge) → Valid spec labels policy other → (l : ℕ) (a : Authority) (m : ℕ) → Has cert l a m
    → Has other l a m
least t spec labels cert flat apart laid is_cert policy other v l a m h = search (rules, has_reason, has_own)
