use Rattle.adl_settings.proofs.SettleCommon.{None, at, length, min, set_within, take, top_number, ℕ, ◌*◌, ◌+◌, ◌<◌, ◌≡◌}
use Rattle.adl_settings.proofs.search.Lookup.+value.Given as goal

abbrev pub decreases-referred : goal.decreases-referred
decreases-referred l = 3 * length l.path.now + 3

abbrev pub decreases-search : goal.decreases-search
decreases-search l = 3 * length l.path.now + 2

-- behind the empty path nothing is looked for
abbrev pub decreases-given_by : goal.decreases-given_by
decreases-given_by l = 3 * length l.path.now + 4 * min (length l.path.now) 1

abbrev pub invariant-search-loop-at : goal.invariant-search-loop-at
invariant-search-loop-at l = record {
  there : l.number ≡ at l.self (top_number l.self) (take l.at l.path);
  none : (k : ℕ) → k < l.at → set_within l.self l.path k (length l.path) l.name ≡ None;
  same : l.self ≡ l.fn.self;
}
