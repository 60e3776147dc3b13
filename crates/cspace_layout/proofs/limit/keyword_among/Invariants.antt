use Rattle.cspace_layout.proofs.Common.{drop, keyword_among, ◌≡◌}
use Rattle.cspace_layout.proofs.limit.keyword_among.Given as goal

abbrev pub invariant-loop-file : goal.invariant-loop-file
invariant-loop-file l = keyword_among (drop l.file-index l.files) ≡ keyword_among l.files
