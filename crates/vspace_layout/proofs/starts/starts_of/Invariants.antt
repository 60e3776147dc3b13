use Rattle.vspace_layout.proofs.Common.{Region, [], gather, pages_in, region_start, take, ◌*◌, ◌+◌, ◌∷◌, ◌≡◌}
use Rattle.vspace_layout.proofs.starts.starts_of.Given as goal

abbrev pub invariant-loop-region : goal.invariant-loop-region
invariant-loop-region l = record {
  at : l.end ≡ l.base + 4096 * (l.region-index + pages_in (take l.region-index l.regions));
  rest : l.starts ≡ gather (λ n (r : Region). region_start l.base l.regions n ∷ []) (take l.region-index l.regions);
}
