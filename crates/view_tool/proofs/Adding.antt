-- A text that grows by parts, one behind another.
use Rattle.view_tool.proofs.PageCommon.{Err, List, Ok, Result, ap, append_assoc, ℕ, ◌++◌, ◌∙◌, ◌≡◌}
use Rattle.std.specs.Result.{OnOk}

pub and_then : (text mid new front part : List ℕ) → mid ≡ text ++ front → new ≡ mid ++ part → new ≡ text ++ (front ++ part)
and_then text mid new front part e g = g ∙ ap (λ z. z ++ part) e ∙ append_assoc text front part

pub and_last : {X E : Type 0} (r : Result X E) (text mid new front part : List ℕ) → mid ≡ text ++ front
    → OnOk r (new ≡ mid ++ part) → OnOk r (new ≡ text ++ (front ++ part))
and_last (Ok x) text mid new front part e g = and_then text mid new front part e g
and_last (Err x) text mid new front part e g = tt
