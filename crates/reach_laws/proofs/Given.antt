-- Which ends the connector table gives an authority, and over what.
use Rattle.reach_laws.proofs.Common.{AsyncSend, Bool, Call, Connector, Control, From, Grant, GrantBack, Handle, Interrupt, ObjectKind, OfEndpoint, OfIrq, OfNotification, Receive, Role, Rpc}
use Rattle.reach_laws.proofs.Common.{To, and_parts, false, gives, has_label, implied, implies, inl, inr, over_object, refl, rules, same_connector, same_object, same_role, sym, true, true≢false, ◌&&◌, ◌||◌, ◌≡◌, ◌⊎◌}
use Rattle.adl_meaning.specs.declared.connector.Connector.TheVariants.{Notification}
use Rattle.arch_policy.proofs.Same.{is_connector, is_object}
use Rattle.conn_rules.proofs.Roles.{is_role}

-- ---- who is given what

pub no_control : (c : Connector) (r : Role) (o : ObjectKind) → gives c r o Control ≡ true → ⊥
no_control c r o h = search (rules, implied, over_object, implies)

pub no_grant : (c : Connector) (r : Role) (o : ObjectKind) → gives c r o Grant ≡ true → ⊥
no_grant c r o h =
    true≢false (sym (implied (gives c r o Grant) false (over_object (λ c r o. implies (gives c r o Grant) false) refl c r o) h))

pub no_grant_back : (c : Connector) (r : Role) (o : ObjectKind) → gives c r o GrantBack ≡ true → ⊥
no_grant_back c r o h = search (rules, implied, over_object, implies)

-- an end and an object as they are asked for
abbrev pub fits : Connector → Role → ObjectKind → Connector → Role → ObjectKind → Bool
fits c r o d q p = same_connector c d && (same_role r q && same_object o p)

pub fitted : (c : Connector) (r : Role) (o : ObjectKind) (d : Connector) (q : Role) (p : ObjectKind) → fits c r o d q p ≡ true
    → (c ≡ d) × (r ≡ q) × (o ≡ p)
fitted c r o d q p h = search (rules, and_parts, is_connector, is_role, is_object)

pub who_calls : (c : Connector) (r : Role) (o : ObjectKind) → gives c r o Call ≡ true → (c ≡ Rpc) × (r ≡ From) × (o ≡ OfEndpoint)
who_calls c r o h = search (rules, fitted, implied, over_object, implies)

pub who_handles : (c : Connector) (r : Role) (o : ObjectKind) → gives c r o Handle ≡ true → (c ≡ Interrupt) × (r ≡ To)
    × (o ≡ OfIrq)
who_handles c r o h = search (rules, fitted, implied, over_object, implies)

-- an endpoint or a notification of a connection that has a label
pub record IsReceiver (c : Connector) (r : Role) (o : ObjectKind) : Type 0 where
  pub labelled : has_label c ≡ true
  pub role : r ≡ To
  pub object : (o ≡ OfEndpoint) ⊎ (o ≡ OfNotification)

either_object : (o : ObjectKind) → same_object o OfEndpoint || same_object o OfNotification ≡ true
    → (o ≡ OfEndpoint) ⊎ (o ≡ OfNotification)
either_object OfEndpoint h = inl refl
either_object OfNotification h = inr refl
either_object _ h = absurd (true≢false (sym h))

pub who_receives : (c : Connector) (r : Role) (o : ObjectKind) → gives c r o Receive ≡ true → IsReceiver c r o
who_receives c r o h = search (rules, implied, over_object, implies, and_parts, is_role, either_object)

either_connector : (c : Connector) → same_connector c Notification || same_connector c Interrupt ≡ true
    → (c ≡ Notification) ⊎ (c ≡ Interrupt)
either_connector Notification h = inl refl
either_connector Interrupt h = inr refl
either_connector _ h = absurd (true≢false (sym h))

pub who_signals : (c : Connector) (r : Role) (o : ObjectKind) → gives c r o AsyncSend ≡ true
    → ((c ≡ Notification) ⊎ (c ≡ Interrupt)) × (r ≡ From) × (o ≡ OfNotification)
who_signals c r o h = search (rules, implied, over_object, implies, and_parts, either_connector, is_role, is_object)
