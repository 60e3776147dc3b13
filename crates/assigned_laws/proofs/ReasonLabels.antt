-- The labels of edges that have a reason, or that locks confer, are those of paths.
use Rattle.std.proofs.Common.{rules}
use Rattle.assigned_laws.proofs.Common.{AreDotted, AreNamesSound, Authority, Edge, EndAt, FlatConnection, IsLockEdge, IsNamed, LabelNumbers, LeadsTo, LockAt, NoObject, ObjectKind, OfEndpoint, OfFrames, OfNotification, Path, Reason}
use Rattle.assigned_laws.proofs.Common.{Source, Tables, ap, by_bind, by_call, by_direct, by_lock, connection_label, connection_path, domain_label, domain_of, flat_of, gives, has_label, hierarchy_of, labelled_endpoint, labelled_frames}
use Rattle.assigned_laws.proofs.Common.{labelled_notification, leaf_label, owner, subst, sym, tables_with, true, ℕ, ◌∙◌, ◌≡◌}
use Rattle.assigned_laws.proofs.Joined.{met, strung_at}
use Rattle.assigned_laws.proofs.Locks.{lock_of}
use Rattle.assigned_laws.proofs.Naming.{connection_named}

module _ (s : Source) (sound : AreNamesSound s) (dotted : AreDotted (hierarchy_of s)) (numbers : LabelNumbers) where
  abbrev t : Tables
  t = tables_with s numbers

  abbrev IsPath : ℕ → Type 0
  IsPath l = (p : Path) × IsNamed t l p

  same_path : (l m : ℕ) → l ≡ m → IsPath m → IsPath l
  same_path l m e w = subst IsPath (sym e) w

  leaf_path : (x : EndAt (flat_of s)) → IsPath (leaf_label t x.end.leaf)
  leaf_path x =
      let g = strung_at s sound dotted numbers x.place x.connection x.here in
      let f = met s sound dotted numbers x g.0 g.1 in
      (owner (hierarchy_of s) f.0.leaf, f.1.named)

  joint_path : (x : EndAt (flat_of s)) (l : ℕ) → has_label x.connection.connector ≡ true
      → l ≡ connection_label t x.place → IsPath l
  joint_path x l labelled e =
      let g = strung_at s sound dotted numbers x.place x.connection x.here in
      let named = connection_named s numbers g.0 x.place g.1 (ap (λ (c : FlatConnection). has_label c.connector) g.2
      ∙ labelled) in
      same_path l (connection_label t x.place) e (connection_path g.0.path g.0.wire, named)

  lock_path : (k : LockAt s (flat_of s)) → IsPath (domain_label t k.domain)
  lock_path k = let o = lock_of s sound numbers k in (domain_of (hierarchy_of s) o.0.leaf, o.1)

  target_path : (x : EndAt (flat_of s)) (o : ObjectKind) (a : Authority) (l : ℕ)
      → gives x.connection.connector x.end.role o a ≡ true → LeadsTo t x o l → IsPath l
  target_path x OfEndpoint a l g h = joint_path x l (labelled_endpoint x.connection.connector x.end.role a g) h
  target_path x OfNotification a l g h = joint_path x l (labelled_notification x.connection.connector x.end.role a g) h
  target_path x OfFrames a l g h = joint_path x l (labelled_frames x.connection.connector x.end.role a g) h
  target_path x NoObject a l g h = absurd h
  target_path x _ a l g h = same_path l (leaf_label t h.at.end.leaf) h.label_is (leaf_path h.at)

  pub reason_paths : (e : Edge) → Reason t e → IsPath e.from × IsPath e.to
  reason_paths e (by_direct r) = search (rules, same_path, leaf_path, target_path)
  reason_paths e (by_call r) = (same_path e.from _ r.from (leaf_path r.server), same_path e.to _ r.to (leaf_path r.caller))
  reason_paths e (by_bind r) = (
    same_path e.from _ r.handles.device_is (leaf_path r.handles.source),
    joint_path r.signaller e.to (ap has_label r.signals.connector) r.to,
  )
  reason_paths e (by_lock r) = search (rules, same_path, leaf_path, lock_path)

  pub lock_paths : (e : Edge) → IsLockEdge t e → IsPath e.from × IsPath e.to
  lock_paths e k = (same_path e.from _ k.from (lock_path k.lock), same_path e.to _ k.to (lock_path k.lock))
