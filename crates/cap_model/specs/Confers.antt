-- What a capability confers:
--
--   endpoint                    Reset always; R Receive; W SyncSend; W with G Grant and Call; W with P Call; R with G GrantBack
--   notification                Reset always; R Receive; W AsyncSend
--   frame                       R Read; W Write
--   CNode, TCB, any page table  Control
--   interrupt                   Handle
use Rattle.std.specs.Prelude.{Bool, true, false, ◌&&◌, ◌||◌, Option, Some, None}
use Rattle.authorities.specs.declared.authority.Authority.{Authority}
use Rattle.authorities.specs.declared.authority.Authority.TheVariants.{Receive, SyncSend, AsyncSend, Reset, Grant, Read, Write, Control, Call, GrantBack, Handle}
use Rattle.cap_model.specs.declared.cap.Cap.{Cap}
use Rattle.cap_model.specs.declared.kind.Kind.{Kind}
use Rattle.cap_model.specs.declared.kind.Kind.TheVariants.{Endpoint, Notification, CNode, Thread, Frame, Pages, Irq}
use Rattle.cap_model.specs.declared.rights.Rights.{Rights}
use Rattle.cap_model.specs.declared.spec.Spec.{Spec}
use Rattle.cap_model.specs.Kinds.{kind_at}

-- whether rights on an object of this kind confer the authority
abbrev pub kind_confers : Kind → Rights → Authority → Bool
kind_confers Endpoint r Reset = true
kind_confers Endpoint r Receive = r.read
kind_confers Endpoint r SyncSend = r.write
kind_confers Endpoint r Grant = r.write && r.grant
kind_confers Endpoint r Call = r.write && (r.grant || r.reply)
kind_confers Endpoint r GrantBack = r.read && r.grant
kind_confers Notification r Reset = true
kind_confers Notification r Receive = r.read
kind_confers Notification r AsyncSend = r.write
kind_confers Frame r Read = r.read
kind_confers Frame r Write = r.write
kind_confers CNode r Control = true
kind_confers Thread r Control = true
kind_confers (Pages level) r Control = true
kind_confers Irq r Handle = true
kind_confers _ r _ = false

abbrev pub option_confers : Option Kind → Rights → Authority → Bool
option_confers None r a = false
option_confers (Some kind) r a = kind_confers kind r a

-- whether the capability confers the authority
abbrev pub confers : Spec → Cap → Authority → Bool
confers spec cap a = option_confers (kind_at spec cap.object) cap.rights a
