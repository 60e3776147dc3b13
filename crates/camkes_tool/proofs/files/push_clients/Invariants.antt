use Rattle.camkes_tool.proofs.Common.{decimal, flat_map, range_with_len, ℕ, ◌++◌, ◌≡◌}
use Rattle.camkes_tool.proofs.files.push_clients.Given as goal

abbrev pub invariant-loop-i : goal.invariant-loop-i
invariant-loop-i l = l.text ≡ l.fn.text ++ flat_map (λ (i : ℕ). l.front ++ decimal i ++ l.back) (range_with_len 0 l.i)
