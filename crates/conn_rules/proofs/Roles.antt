-- Roles that are told to be the same are.
use Rattle.std.proofs.Common.{◌≡◌, true, refl, sym, true≢false}
use Rattle.adl_meaning.specs.Prelude.{From, Role, To}
use Rattle.conn_rules.specs.Row.{same_role}

pub is_role : (r q : Role) → same_role r q ≡ true → r ≡ q
is_role From From h = refl
is_role To To h = refl
is_role From To h = absurd (true≢false (sym h))
is_role To From h = absurd (true≢false (sym h))
