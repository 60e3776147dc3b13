-- The rights of each row confer its authorities: a test of each row and authority, which computes.
use Rattle.std.proofs.Common.{◌≡◌, ◌&&◌, Bool, true, false, not, refl, arith, List, [], ◌∷◌, sym}
use Rattle.std.specs.Prelude.{nat_lt}
use Rattle.adl_meaning.specs.Prelude.{All, list_all}
use Rattle.std.proofs.lemmas.Bool.{ltb-true, and_parts}
use Rattle.std.proofs.lemmas.List.Sums.{AllPass-from_list_all}
use Rattle.authorities.specs.AuthoritySets.{IsSetOf, set_has}
use Rattle.authorities.specs.declared.authority.Authority.{Authority}
use Rattle.authorities.specs.declared.authority.Authority.TheVariants.{Receive, SyncSend, AsyncSend, Reset, Grant, Read, Write, Control, Call, Reply, GrantBack, Handle}
use Rattle.conn_rules.specs.Confer.{row_confers}
use Rattle.conn_rules.specs.Row.{table}
use Rattle.conn_rules.specs.declared.rule.RuleRow.{RuleRow}

abbrev agree : Bool → Bool → Bool
agree true b = b
agree false b = not b

agree-same : (a b : Bool) → agree a b ≡ true → a ≡ b
agree-same true true e = refl
agree-same true false e = sym e
agree-same false true e = e
agree-same false false e = refl

abbrev every : List Authority
every = Receive ∷ SyncSend ∷ AsyncSend ∷ Reset ∷ Grant ∷ Read ∷ Write ∷ Control ∷ Call ∷ Reply ∷ GrantBack ∷ Handle ∷ []

-- a test that every authority passes is passed by each
passed : (test : Authority → Bool) → All (λ a. test a ≡ true) every → (a : Authority) → test a ≡ true
passed test e Receive = e 0 Receive (omega arith)
passed test e SyncSend = e 1 SyncSend (omega arith)
passed test e AsyncSend = e 2 AsyncSend (omega arith)
passed test e Reset = e 3 Reset (omega arith)
passed test e Grant = e 4 Grant (omega arith)
passed test e Read = e 5 Read (omega arith)
passed test e Write = e 6 Write (omega arith)
passed test e Control = e 7 Control (omega arith)
passed test e Call = e 8 Call (omega arith)
passed test e Reply = e 9 Reply (omega arith)
passed test e GrantBack = e 10 GrantBack (omega arith)
passed test e Handle = e 11 Handle (omega arith)

-- whether the row's set has just what its rights confer
abbrev agrees : RuleRow → Authority → Bool
agrees row a = agree (set_has row.authorities.bits a) (row_confers row a)

abbrev is_right : RuleRow → Bool
is_right row = nat_lt row.authorities.bits 4096 && list_all (agrees row) every

set_of_row : (row : RuleRow) → is_right row ≡ true → IsSetOf (row_confers row) row.authorities.bits
set_of_row row e =
    let parts = and_parts (nat_lt row.authorities.bits 4096) (list_all (agrees row) every) e in
    record {
      each = λ a. agree-same _ _ (passed (agrees row) (AllPass-from_list_all (agrees row) every parts.1) a);
      no_more = ltb-true row.authorities.bits 4096 parts.0;
    }

pub rows_confer : All (λ r. IsSetOf (row_confers r) r.authorities.bits) table
rows_confer k d below = set_of_row _ (AllPass-from_list_all is_right table refl k d below)
