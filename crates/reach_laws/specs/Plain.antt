-- Specs whose CNodes hold capabilities to endpoints, notifications and interrupts alone, to endpoints without G; and the steps
-- that copy no capability and change no root, no space and no mapping.
use Rattle.std.specs.Prelude.{◌≡◌, ℕ, Bool, true, false, not, Option, Some, None}
use Rattle.reach_laws.specs.Below.{Cap, Rights, Spec, kind_at}
use Rattle.cap_machine.specs.declared.step.Step.{Step}
use Rattle.cap_machine.specs.declared.step.Step.TheVariants.{Take, Put, Grant, Call, Reply, SetCspace, SetVspace, Map, Bind, Drop, Save, ReplyTo}
use Rattle.cap_model.specs.declared.kind.Kind.{Kind}
use Rattle.cap_model.specs.declared.kind.Kind.TheVariants as kinds
use Rattle.reach_laws.specs.Arranged.{Holds}

abbrev pub plain_kind : Kind → Rights → Bool
plain_kind kinds.Endpoint r = not r.grant
plain_kind kinds.Notification r = true
plain_kind kinds.Irq r = true
plain_kind _ r = false

abbrev pub option_plain : Option Kind → Rights → Bool
option_plain None r = false
option_plain (Some kind) r = plain_kind kind r

abbrev pub is_plain : Spec → Cap → Bool
is_plain spec cap = option_plain (kind_at spec cap.object) cap.rights

abbrev pub HoldsPlain : Spec → Type 0
HoldsPlain spec = (c i : ℕ) (cap : Cap) → Holds spec c i cap → is_plain spec cap ≡ true

abbrev pub IsPlainStep : Step → Type 0
IsPlainStep (Call t i u j) = Unit {0}
IsPlainStep (Reply t None) = Unit {0}
IsPlainStep (Reply t (Some copy)) = ⊥
IsPlainStep (Bind t i j) = Unit {0}
IsPlainStep (Drop t i) = Unit {0}
IsPlainStep (Save t) = Unit {0}
IsPlainStep (ReplyTo t i None) = Unit {0}
IsPlainStep (ReplyTo t i (Some copy)) = ⊥
IsPlainStep (Take t i j r) = ⊥
IsPlainStep (Put t i j r) = ⊥
IsPlainStep (Grant t i u j k r) = ⊥
IsPlainStep (SetCspace t i j) = ⊥
IsPlainStep (SetVspace t i j) = ⊥
IsPlainStep (Map t i j r) = ⊥
