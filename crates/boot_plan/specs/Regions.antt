-- Regions of untyped memory: 2^4 to 2^47 bytes at a multiple of their size, which end within 48 bits.
use Rattle.std.specs.Prelude.{ℕ, ◌+◌, ◌%◌, ◌^◌, ◌==◌, leb, nat_lt, Bool, ◌&&◌, List}
use Rattle.std.specs.List.{list_all}
use Rattle.boot_plan.specs.declared.untyped.Untyped.{Untyped}

abbrev pub is_region : ℕ → ℕ → Bool
is_region paddr bits = leb 4 bits && (leb bits 47 && (paddr % 2 ^ bits == 0 && leb (paddr + 2 ^ bits) (2 ^ 48)))

abbrev pub are_regions : List Untyped → Bool
are_regions = list_all (λ r. is_region r.paddr r.bits)

-- the place behind its last byte
abbrev pub region_end : Untyped → ℕ
region_end r = r.paddr + 2 ^ r.bits

-- each begins in front of the other's end
abbrev pub shares : Untyped → Untyped → Bool
shares r q = nat_lt r.paddr (region_end q) && nat_lt q.paddr (region_end r)
