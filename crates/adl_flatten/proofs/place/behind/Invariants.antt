use Rattle.adl_flatten.proofs.TemplateCommon.{drop, length, ◌++◌, ◌+◌, ◌∷◌, ◌≡◌}
use Rattle.std.specs.Prelude.{vec_capacity, vec_len}
use Rattle.adl_flatten.proofs.place.behind.Given as goal

abbrev pub invariant-loop-inner : goal.invariant-loop-inner
invariant-loop-inner l = record {
  count : vec_len l.names ≡ l.inner-index + 1;
  room : vec_capacity l.names ≡ length l.path + 1;
  names : l.names.items ++ drop l.inner-index l.path ≡ l.name ∷ l.path;
}
