-- Tests over the whole connector table, and what it gives over the own object of a connection.
use Rattle.arch_policy.proofs.Common.{AsyncSend, Authority, Bool, Call, Connector, Control, Direct, From, Grant, GrantBack, Handle, Interrupt, IsIn, List, Mmio, NoObject, Notification, ObjectKind, OfDevice, OfEndpoint, OfFrames, OfIrq}
use Rattle.arch_policy.proofs.Common.{OfNotification, Read, Receive, Reply, Reset, Role, Rpc, SharedMemory, SyncSend, To, Write, [], and_parts, ap, authorities, false, gives, has_label, inl, inr, list_all, not, refl, sym, true, true≢false, ◌||◌, ◌∙◌}
use Rattle.arch_policy.proofs.Common.{◌∷◌, ◌≡◌}

in_all : {X : Type 0} (p : X → Bool) (x : X) (xs : List X) → IsIn x xs → list_all p xs ≡ true → p x ≡ true
in_all p x [] i h = absurd i
in_all p x (y ∷ ys) (inl same) h = ap p (sym same) ∙ (and_parts (p y) (list_all p ys) h).0
in_all p x (y ∷ ys) (inr i) h = in_all p x ys i (and_parts (p y) (list_all p ys) h).1

abbrev pub connectors : List Connector
connectors = Rpc ∷ Notification ∷ SharedMemory ∷ Mmio ∷ Interrupt ∷ Direct ∷ []

abbrev pub roles : List Role
roles = From ∷ To ∷ []

abbrev pub objects : List ObjectKind
objects = NoObject ∷ OfEndpoint ∷ OfNotification ∷ OfFrames ∷ OfDevice ∷ OfIrq ∷ []

a_connector : (c : Connector) → IsIn c connectors
a_connector Rpc = inl refl
a_connector Notification = inr (inl refl)
a_connector SharedMemory = inr (inr (inl refl))
a_connector Mmio = inr (inr (inr (inl refl)))
a_connector Interrupt = inr (inr (inr (inr (inl refl))))
a_connector Direct = inr (inr (inr (inr (inr (inl refl)))))

a_role : (r : Role) → IsIn r roles
a_role From = inl refl
a_role To = inr (inl refl)

an_object : (o : ObjectKind) → IsIn o objects
an_object NoObject = inl refl
an_object OfEndpoint = inr (inl refl)
an_object OfNotification = inr (inr (inl refl))
an_object OfFrames = inr (inr (inr (inl refl)))
an_object OfDevice = inr (inr (inr (inr (inl refl))))
an_object OfIrq = inr (inr (inr (inr (inr (inl refl)))))

abbrev pub at_ends : (Connector → Role → Bool) → Bool
at_ends p = list_all (λ c. list_all (p c) roles) connectors

-- what holds at each end holds at this one
pub at_end : (p : Connector → Role → Bool) → at_ends p ≡ true → (c : Connector) (r : Role) → p c r ≡ true
at_end p h c r = in_all (p c) r roles (a_role r) (in_all (λ c. list_all (p c) roles) c connectors (a_connector c) h)

-- and over each object
pub over_object : (p : Connector → Role → ObjectKind → Bool) → at_ends (λ c r. list_all (p c r) objects) ≡ true
    → (c : Connector) (r : Role) (o : ObjectKind) → p c r o ≡ true
over_object p h c r o = in_all (p c r) o objects (an_object o) (at_end (λ c r. list_all (p c r) objects) h c r)

pub an_authority : (a : Authority) → IsIn a authorities
an_authority Receive = inl refl
an_authority SyncSend = inr (inl refl)
an_authority AsyncSend = inr (inr (inl refl))
an_authority Reset = inr (inr (inr (inl refl)))
an_authority Grant = inr (inr (inr (inr (inl refl))))
an_authority Read = inr (inr (inr (inr (inr (inl refl)))))
an_authority Write = inr (inr (inr (inr (inr (inr (inl refl))))))
an_authority Control = inr (inr (inr (inr (inr (inr (inr (inl refl)))))))
an_authority Call = inr (inr (inr (inr (inr (inr (inr (inr (inl refl))))))))
an_authority Reply = inr (inr (inr (inr (inr (inr (inr (inr (inr (inl refl)))))))))
an_authority GrantBack = inr (inr (inr (inr (inr (inr (inr (inr (inr (inr (inl refl))))))))))
an_authority Handle = inr (inr (inr (inr (inr (inr (inr (inr (inr (inr (inr (inl refl)))))))))))

-- and by each authority
pub at_authority : (p : Connector → Role → Authority → Bool) → at_ends (λ c r. list_all (p c r) authorities) ≡ true
    → (c : Connector) (r : Role) (a : Authority) → p c r a ≡ true
at_authority p h c r a = in_all (p c r) a authorities (an_authority a) (at_end (λ c r. list_all (p c r) authorities) h c r)

pub over_all : (p : Connector → Role → ObjectKind → Authority → Bool)
    → at_ends (λ c r. list_all (λ o. list_all (p c r o) authorities) objects) ≡ true
    → (c : Connector) (r : Role) (o : ObjectKind) (a : Authority) → p c r o a ≡ true
over_all p h c r o a = in_all (p c r o) a authorities (an_authority a)
    (over_object (λ c r o. list_all (p c r o) authorities) h c r o)

abbrev pub implies : Bool → Bool → Bool
implies a b = not a || b

pub implied : (a b : Bool) → implies a b ≡ true → a ≡ true → b ≡ true
implied true b h e = h
implied false b h e = absurd (true≢false (sym e))

-- ---- a connection over whose own object something is given has a label

pub labelled_endpoint : (c : Connector) (r : Role) (a : Authority) → gives c r OfEndpoint a ≡ true → has_label c ≡ true
labelled_endpoint c r a = implied (gives c r OfEndpoint a) (has_label c)
    (at_authority (λ c r a. implies (gives c r OfEndpoint a) (has_label c)) refl c r a)

pub labelled_notification : (c : Connector) (r : Role) (a : Authority) → gives c r OfNotification a ≡ true → has_label c ≡ true
labelled_notification c r a = implied (gives c r OfNotification a) (has_label c)
    (at_authority (λ c r a. implies (gives c r OfNotification a) (has_label c)) refl c r a)

pub labelled_frames : (c : Connector) (r : Role) (a : Authority) → gives c r OfFrames a ≡ true → has_label c ≡ true
labelled_frames c r a = implied (gives c r OfFrames a) (has_label c)
    (at_authority (λ c r a. implies (gives c r OfFrames a) (has_label c)) refl c r a)
