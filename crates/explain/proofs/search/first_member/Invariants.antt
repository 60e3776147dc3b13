use Rattle.explain.proofs.Common.{Some, is_lock, slice_get, true, ℕ, ◌<◌, ◌≡◌}
use Rattle.adl_ast.specs.declared.component.Member.{Member}
use Rattle.explain.proofs.search.first_member.Given as goal

abbrev pub invariant-loop-place : goal.invariant-loop-place
invariant-loop-place l = (m : ℕ) (y : Member) → m < l.place → slice_get l.members m ≡ Some y → is_lock y ≡ true → ⊥
