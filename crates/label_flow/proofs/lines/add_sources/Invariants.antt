use Rattle.label_flow.proofs.Common.{flat_map, is_source, source_word, take, ◌++◌, ◌≡◌}
use Rattle.label_flow.proofs.lines.add_sources.Given as goal

abbrev pub invariant-loop-label : goal.invariant-loop-label
invariant-loop-label l = l.text ≡ l.fn.text ++ flat_map (source_word (is_source l.sources) l.to) (take l.label-index l.labels)
