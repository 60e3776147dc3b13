use Rattle.command_words.proofs.Common.{App, IfOk-weaker, List, Text, [], Bor, ap, ap₂, codes, leaf, with_subcommand, ◌∙◌, ◌∷◌, ◌≡◌}
use Rattle.command_words.proofs.Building.{texts}
use Rattle.command_words.proofs.reader.program.Goals as goal

-- one more command, where what stands before it is known
more : (a b c : App) (name : Text) (slots : List (Bor Text)) (ids : List Text) → a ≡ b → texts slots ≡ ids
    → c ≡ with_subcommand a (leaf name (texts slots)) → c ≡ with_subcommand b (leaf name ids)
more a b c name slots ids before are is = is ∙ ap₂ (λ x y. with_subcommand x (leaf name y)) before are

pub returns : goal.returns
returns c =
    let e1 = more _ _ _ (codes "compile") _ (codes "ROOT" ∷ codes "BASE" ∷ []) c.bare-program.ensures
    (ap texts c.as_slice.ensures) c.in_ok-program.ensures in
    let e2 = more _ _ _ (codes "check") _ (codes "CDL" ∷ codes "POLICY" ∷ codes "CERT" ∷ []) e1 (ap texts c.as_slice-2.ensures)
    c.in_ok-program-2.ensures in
    let e3 = more _ _ _ (codes "list") _ (codes "ROOT" ∷ []) e2 (ap texts c.as_slice-3.ensures) c.in_ok-program-3.ensures in
    let e4 = more _ _ _ (codes "explain") _ (codes "ROOT" ∷ codes "FROM" ∷ codes "AUTHORITY" ∷ codes "TO" ∷ []) e3
    (ap texts c.as_slice-4.ensures) c.in_ok-program-4.ensures in
    let e5 = more _ _ _ (codes "replay") _ (codes "CDL" ∷ codes "POLICY" ∷ codes "STEPS" ∷ []) e4 (ap texts c.as_slice-5.ensures)
    c.in_ok-program-5.ensures in
    let e6 = more _ _ _ (codes "generate") _ (codes "N" ∷ []) e5 (ap texts c.as_slice-6.ensures) c.in_ok-program-6.ensures in
    let e7 = more _ _ _ (codes "audit") _ (codes "CDL" ∷ codes "POLICY" ∷ []) e6 (ap texts c.as_slice-7.ensures)
    c.in_ok-program-7.ensures in
    let e8 = more _ _ _ (codes "certify") _ (codes "CDL" ∷ codes "POLICY" ∷ []) e7 (ap texts c.as_slice-8.ensures)
    c.in_ok-program-8.ensures in
    let e9 = more _ _ _ (codes "sections") _ (codes "ELF" ∷ []) e8 (ap texts c.as_slice-9.ensures) c.in_ok-program-9.ensures in
    IfOk-weaker c.with-10.result _ _ (λ r h. more _ _ _ (codes "plan") _ (codes "CDL" ∷ codes "UNTYPEDS" ∷ []) e9
    (ap texts c.as_slice-10.ensures) h) c.with-10.ensures
