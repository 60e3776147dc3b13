use Rattle.adl_flatten.proofs.TemplateCommon.{IsFilled, ◌≡◌}
use Rattle.adl_flatten.proofs.Filling.{IsHeldTemplate}
use Rattle.std.specs.Prelude.{vec_capacity, vec_len}
use Rattle.adl_flatten.proofs.template.assembly_template.Given as goal

abbrev pub invariant-loop-count : goal.invariant-loop-count
invariant-loop-count l = record {
  count : vec_len l.all ≡ l._count;
  room : vec_capacity l.all ≡ vec_len l.held;
}

abbrev pub invariant-loop-number : goal.invariant-loop-number
invariant-loop-number l = IsFilled (IsHeldTemplate l.program l.held.items) l.program l.number-items l.all.items l.number-index
