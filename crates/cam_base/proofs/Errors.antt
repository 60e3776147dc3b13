-- Errors that are passed on.
use Rattle.cam_base.proofs.Common.{Err, Result, ap, subst, sym, ◌∙◌, ◌≡◌}
use Rattle.std.proofs.lemmas.Result.{err_from_is_err_and}
use Rattle.std.specs.Result.{IsErrAnd}

pub err_is : {A E : Type 0} (r : Result A E) (e : E) → IsErrAnd r (λ x. x ≡ e) → r ≡ Err e
err_is r e h = let p = err_from_is_err_and r h in p.1 ∙ ap Err p.2

-- what answers with an error that is passed on, answers as with that error
pub passed_on : {A E : Type 0} (Answers : Result A E → Type 0) (r : Result A E) (e : E) → IsErrAnd r (λ x. x ≡ e)
    → Answers (Err e) → Answers r
passed_on Answers r e is said = subst Answers (sym (err_is r e is)) said
