-- Connectors, roles and kinds of objects that are told to be the same are
use Rattle.arch_policy.proofs.Common.{Connector, Direct, From, Interrupt, Mmio, NoObject, Notification, ObjectKind, OfDevice, OfEndpoint, OfFrames, OfIrq, OfNotification, Role, Rpc, SharedMemory, To, refl, same_connector, same_object, same_role, sym}
use Rattle.arch_policy.proofs.Common.{true, true≢false, ◌≡◌}

pub is_connector : (c d : Connector) → same_connector c d ≡ true → c ≡ d
is_connector Rpc Rpc h = refl
is_connector Rpc Notification h = absurd (true≢false (sym h))
is_connector Rpc SharedMemory h = absurd (true≢false (sym h))
is_connector Rpc Mmio h = absurd (true≢false (sym h))
is_connector Rpc Interrupt h = absurd (true≢false (sym h))
is_connector Rpc Direct h = absurd (true≢false (sym h))
is_connector Notification Rpc h = absurd (true≢false (sym h))
is_connector Notification Notification h = refl
is_connector Notification SharedMemory h = absurd (true≢false (sym h))
is_connector Notification Mmio h = absurd (true≢false (sym h))
is_connector Notification Interrupt h = absurd (true≢false (sym h))
is_connector Notification Direct h = absurd (true≢false (sym h))
is_connector SharedMemory Rpc h = absurd (true≢false (sym h))
is_connector SharedMemory Notification h = absurd (true≢false (sym h))
is_connector SharedMemory SharedMemory h = refl
is_connector SharedMemory Mmio h = absurd (true≢false (sym h))
is_connector SharedMemory Interrupt h = absurd (true≢false (sym h))
is_connector SharedMemory Direct h = absurd (true≢false (sym h))
is_connector Mmio Rpc h = absurd (true≢false (sym h))
is_connector Mmio Notification h = absurd (true≢false (sym h))
is_connector Mmio SharedMemory h = absurd (true≢false (sym h))
is_connector Mmio Mmio h = refl
is_connector Mmio Interrupt h = absurd (true≢false (sym h))
is_connector Mmio Direct h = absurd (true≢false (sym h))
is_connector Interrupt Rpc h = absurd (true≢false (sym h))
is_connector Interrupt Notification h = absurd (true≢false (sym h))
is_connector Interrupt SharedMemory h = absurd (true≢false (sym h))
is_connector Interrupt Mmio h = absurd (true≢false (sym h))
is_connector Interrupt Interrupt h = refl
is_connector Interrupt Direct h = absurd (true≢false (sym h))
is_connector Direct Rpc h = absurd (true≢false (sym h))
is_connector Direct Notification h = absurd (true≢false (sym h))
is_connector Direct SharedMemory h = absurd (true≢false (sym h))
is_connector Direct Mmio h = absurd (true≢false (sym h))
is_connector Direct Interrupt h = absurd (true≢false (sym h))
is_connector Direct Direct h = refl

pub is_object : (o p : ObjectKind) → same_object o p ≡ true → o ≡ p
is_object NoObject NoObject h = refl
is_object NoObject OfEndpoint h = absurd (true≢false (sym h))
is_object NoObject OfNotification h = absurd (true≢false (sym h))
is_object NoObject OfFrames h = absurd (true≢false (sym h))
is_object NoObject OfDevice h = absurd (true≢false (sym h))
is_object NoObject OfIrq h = absurd (true≢false (sym h))
is_object OfEndpoint NoObject h = absurd (true≢false (sym h))
is_object OfEndpoint OfEndpoint h = refl
is_object OfEndpoint OfNotification h = absurd (true≢false (sym h))
is_object OfEndpoint OfFrames h = absurd (true≢false (sym h))
is_object OfEndpoint OfDevice h = absurd (true≢false (sym h))
is_object OfEndpoint OfIrq h = absurd (true≢false (sym h))
is_object OfNotification NoObject h = absurd (true≢false (sym h))
is_object OfNotification OfEndpoint h = absurd (true≢false (sym h))
is_object OfNotification OfNotification h = refl
is_object OfNotification OfFrames h = absurd (true≢false (sym h))
is_object OfNotification OfDevice h = absurd (true≢false (sym h))
is_object OfNotification OfIrq h = absurd (true≢false (sym h))
is_object OfFrames NoObject h = absurd (true≢false (sym h))
is_object OfFrames OfEndpoint h = absurd (true≢false (sym h))
is_object OfFrames OfNotification h = absurd (true≢false (sym h))
is_object OfFrames OfFrames h = refl
is_object OfFrames OfDevice h = absurd (true≢false (sym h))
is_object OfFrames OfIrq h = absurd (true≢false (sym h))
is_object OfDevice NoObject h = absurd (true≢false (sym h))
is_object OfDevice OfEndpoint h = absurd (true≢false (sym h))
is_object OfDevice OfNotification h = absurd (true≢false (sym h))
is_object OfDevice OfFrames h = absurd (true≢false (sym h))
is_object OfDevice OfDevice h = refl
is_object OfDevice OfIrq h = absurd (true≢false (sym h))
is_object OfIrq NoObject h = absurd (true≢false (sym h))
is_object OfIrq OfEndpoint h = absurd (true≢false (sym h))
is_object OfIrq OfNotification h = absurd (true≢false (sym h))
is_object OfIrq OfFrames h = absurd (true≢false (sym h))
is_object OfIrq OfDevice h = absurd (true≢false (sym h))
is_object OfIrq OfIrq h = refl

pub same_role_self : (r : Role) → same_role r r ≡ true
same_role_self From = refl
same_role_self To = refl

pub same_connector_self : (c : Connector) → same_connector c c ≡ true
same_connector_self Rpc = refl
same_connector_self Notification = refl
same_connector_self SharedMemory = refl
same_connector_self Mmio = refl
same_connector_self Interrupt = refl
same_connector_self Direct = refl

pub same_object_self : (o : ObjectKind) → same_object o o ≡ true
same_object_self NoObject = refl
same_object_self OfEndpoint = refl
same_object_self OfNotification = refl
same_object_self OfFrames = refl
same_object_self OfDevice = refl
same_object_self OfIrq = refl
