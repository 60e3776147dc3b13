-- Settled stacks are whole pages.
use Rattle.spec_laws.proofs.Common.{Bool, LeafFound, LeafSetting, None, Option, Some, Source, arith, cond_both, false, from_get_map, leaf_setting, meant, option_map}
use Rattle.spec_laws.proofs.Common.{rules, settled_of, slice_get, stack_in, true, unwrap_or, whole_pages, within, ℕ, ◌%◌, ◌&&◌, ◌≡◌}
use Rattle.adl_meaning.specs.Values.{Given}

sized_whole : (n : ℕ) → unwrap_or (option_map whole_pages (within 1 16777216 n)) 0 % 4096 ≡ 0
sized_whole n = search (rules)

meant_whole : (o : Option Given) → unwrap_or (meant stack_in 16384 o) 0 % 4096 ≡ 0
meant_whole None = omega arith
meant_whole (Some g) = search (rules, sized_whole)

leaf_whole : (f : LeafFound) → (leaf_setting f).stack % 4096 ≡ 0
leaf_whole f = cond_both f.leaf.hardware 0 (unwrap_or (meant stack_in 16384 f.stack) 0) (λ z. z % 4096 ≡ 0) (λ e. omega arith)
    (λ e. meant_whole f.stack)

pub stacks_whole : (s : Source) (leaf : ℕ) (x : LeafSetting) → slice_get (settled_of s).leaves leaf ≡ Some x → x.stack % 4096 ≡ 0
stacks_whole s leaf x at = search (rules, from_get_map, leaf_whole)
