-- What the settings of an end mean. Where there is no value the default counts: both rights, the position among the `from`
-- ends, and the bytes of the port's type in whole pages, which are 4,096 where no number stands in the type. An address and
-- the number of an interrupt have no default.
use Rattle.adl_meaning.specs.Prelude.{Interface, default_size}
use Rattle.std.specs.Prelude.{Option, if◌then◌else◌, unwrap_or, ℕ, ◌||◌}
use Rattle.adl_settings.specs.Words.{EndSetting}
use Rattle.adl_settings.specs.declared.access.Access.{Access}
use Rattle.adl_settings.specs.Allowed.{access_in, badge_in, irq_in, no_access, paddr_in, page, read_and_write, size_in, sized}
use Rattle.adl_settings.specs.Joints.{Found, has_access, has_badge, is_device_memory, is_shared}
use Rattle.adl_settings.specs.Meant.{meaning, meant}

abbrev pub access_of : Found → Option Access
access_of f = meant access_in read_and_write f.access

abbrev pub badge_of : Found → Option ℕ
badge_of f = meant badge_in f.joint.position f.badge

-- the bytes of the port's type, which are a size that memory may have where no fault of types stands
abbrev pub default_bytes : Interface → ℕ
default_bytes i = unwrap_or (sized (unwrap_or i.size default_size)) page

abbrev pub bytes_of : Found → Option ℕ
bytes_of f = meant size_in (default_bytes f.joint.interface) f.size

-- beside a size that isn't allowed the address is looked at with the size 0
abbrev pub paddr_of : Found → Option ℕ
paddr_of f = meaning (paddr_in (unwrap_or (bytes_of f) 0)) f.paddr

abbrev pub irq_of : Found → Option ℕ
irq_of f = meaning irq_in f.irq

-- ---- the settings of an end; what has no meaning for it is 0 or false

abbrev pub access_at : Found → Access
access_at f = if has_access f.joint then unwrap_or (access_of f) no_access else no_access

abbrev pub badge_at : Found → ℕ
badge_at f = if has_badge f.joint then unwrap_or (badge_of f) 0 else 0

abbrev pub end_setting : Found → EndSetting
end_setting f = record {
  read = (access_at f).read;
  write = (access_at f).write;
  badge = badge_at f;
  bytes = if is_shared f.joint.connection.connector || is_device_memory f.joint then unwrap_or (bytes_of f) 0 else 0;
  paddr = unwrap_or (paddr_of f) 0;
  irq = unwrap_or (irq_of f) 0;
}
