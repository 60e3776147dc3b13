-- The sizes of memory and the addresses of registers that settings give: whole pages, within their bounds.
use Rattle.spec_laws.proofs.Common.{Bool, EndSetting, Found, Interface, None, Option, Some, Value, [], and_parts, arith, bad_at_end, bad_value, bytes_of, cond_both, default_bytes, end_setting, eqb-true, false}
use Rattle.spec_laws.proofs.Common.{is_device_memory, is_some, is_there, leb-true, meaning, meant, none_left, none_right, paddr_in, refl, size_in, sized, so, true, unwrap_or}
use Rattle.spec_laws.proofs.Common.{rules, ℕ, ◌%◌, ◌&&◌, ◌*◌, ◌+◌, ◌/◌, ◌==◌, ◌^◌, ◌||◌, ◌≡◌, ◌≤◌}
use Rattle.adl_meaning.specs.Values.{Given}
use Rattle.adl_settings.specs.Allowed.{placed}
use Rattle.adl_settings.specs.Joints.{is_shared}

-- one page at least, and at most 65,536
pub record IsSize (bytes : ℕ) : Type 0 where
  pub some : 4096 ≤ bytes
  pub most : bytes ≤ 268435456
  pub whole : bytes % 4096 ≡ 0

rounded : (n : ℕ) → 1 ≤ n → n ≤ 268435456 → IsSize ((n + 4095) / 4096 * 4096)
rounded n low high = record { some = omega (arith, low); most = omega (arith, high); whole = omega arith }

sized_is : (n b : ℕ) → sized n ≡ Some b → IsSize b
sized_is n b e = search (rules, and_parts, rounded, leb-true)

size_is : (v : Value) (b : ℕ) → size_in v ≡ Some b → IsSize b
size_is v b e = search (rules, sized_is)

default_is : (i : Interface) → IsSize (default_bytes i)
default_is i = search (rules, sized_is)

pub bytes_are : (f : Found) (b : ℕ) → bytes_of f ≡ Some b → IsSize b
bytes_are f b e = search (rules, default_is, size_is)

-- where no value is bad, there is a size
bytes_there : (f : Found) → bad_value size_in f.size ≡ [] → (b : ℕ) × (bytes_of f ≡ Some b)
bytes_there f good = by_given f.size good where
  by_given : (o : Option Given) → bad_value size_in o ≡ []
      → (b : ℕ) × (meant size_in (default_bytes f.joint.interface) o ≡ Some b)
  by_given None e = (default_bytes f.joint.interface, refl)
  by_given (Some g) e = is_there (size_in g.value) (so (is_some (size_in g.value)) _ e)

good_size : (f : Found) → bad_at_end f ≡ [] → bad_value size_in f.size ≡ []
good_size f good = none_right _ (bad_value size_in f.size) (none_left _ _ (none_left _ _ good))

pub size_of_end : (f : Found) → bad_at_end f ≡ [] → (is_shared f.joint.connection.connector || is_device_memory f.joint) ≡ true
    → IsSize (end_setting f).bytes
size_of_end f good on = search (rules, bytes_there, good_size, bytes_are)

-- ---- without regard to faults

pub record IsMeasured (e : EndSetting) : Type 0 where
  pub most : e.bytes ≤ 268435456
  pub whole : e.bytes % 4096 ≡ 0
  pub fits : e.paddr + e.bytes ≤ 2 ^ 48
  pub aligned : e.paddr % 4096 ≡ 0

record IsPlaced (bytes at : ℕ) : Type 0 where
  fits : at + bytes ≤ 2 ^ 48
  aligned : at % 4096 ≡ 0

at_zero : (bytes : ℕ) → bytes ≤ 268435456 → IsPlaced bytes 0
at_zero bytes l = record { fits = omega (arith, l); aligned = omega arith }

placed_is : (bytes n : ℕ) → bytes ≤ 268435456 → IsPlaced bytes (unwrap_or (placed bytes n) 0)
placed_is bytes n l = search (rules, and_parts, leb-true, eqb-true, at_zero)

paddr_is : (bytes : ℕ) (o : Option Given) → bytes ≤ 268435456 → IsPlaced bytes (unwrap_or (meaning (paddr_in bytes) o) 0)
paddr_is bytes None l = at_zero bytes l
paddr_is bytes (Some g) l = search (rules, at_zero, placed_is)

record IsRound (bytes : ℕ) : Type 0 where
  most : bytes ≤ 268435456
  whole : bytes % 4096 ≡ 0

no_bytes : IsRound 0
no_bytes = record { most = omega arith; whole = omega arith }

bytes_round : (f : Found) → IsRound (unwrap_or (bytes_of f) 0)
bytes_round f = search (rules, no_bytes, bytes_are)

record IsSettled (bytes at settled : ℕ) : Type 0 where
  most : settled ≤ 268435456
  whole : settled % 4096 ≡ 0
  fits : at + settled ≤ 2 ^ 48

pub measured : (f : Found) → IsMeasured (end_setting f)
measured f = search (rules, bytes_round, paddr_is, cond_both)
