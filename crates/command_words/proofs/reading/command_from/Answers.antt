use Rattle.command_words.proofs.Common.{Bool, Command, None, Option, codes, cond, false, refl, true, true≢false, ◌≡◌}
use Rattle.command_words.proofs.Readings.{differs}
use Rattle.command_words.proofs.reading.command_from.Goals as goal

pass : (b : Bool) (x y : Option Command) → b ≡ false → y ≡ None → cond b x y ≡ None
pass true x y e n = absurd (true≢false e)
pass false x y e n = n

pub returns-in_default : goal.returns-in_default
returns-in_default c = λ same.
    pass _ _ _ (differs (codes "compile") _ c.in_default.not-compile)
    (pass _ _ _ (differs (codes "check") _ c.in_default.not-check)
    (pass _ _ _ (differs (codes "list") _ c.in_default.not-list)
    (pass _ _ _ (differs (codes "explain") _ c.in_default.not-explain)
    (pass _ _ _ (differs (codes "replay") _ c.in_default.not-replay)
    (pass _ _ _ (differs (codes "generate") _ c.in_default.not-generate)
    (pass _ _ _ (differs (codes "audit") _ c.in_default.not-audit)
    (pass _ _ _ (differs (codes "certify") _ c.in_default.not-certify)
    (pass _ _ _ (differs (codes "sections") _ c.in_default.not-sections)
    (pass _ _ _ (differs (codes "plan") _ c.in_default.not-plan)
    refl)))))))))
