use Rattle.front_laws.proofs.Common.{Fault, IsIn, scope_of_held, subst, sym, unknown_in_setting}
use Rattle.front_laws.proofs.UnknownWords.{from_setting, in_setting}
use Rattle.front_laws.proofs.laws.unknown_words_lead_nowhere.Goals as goal

pub returns : goal.returns
returns c = λ types holds words f. (
  from_setting types holds words f,
  λ x. let P : Fault → Type 0 = λ g. IsIn g (unknown_in_setting types (scope_of_held holds) words) in
      subst P (sym x.2) (in_setting types holds words x.0 x.1),
)
