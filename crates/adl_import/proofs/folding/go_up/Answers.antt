use Rattle.adl_import.proofs.Common.{Bor, List, Some, ap, false, inner_first, is_in_folder, sym, ℕ, ◌∙◌, ◌≡◌}
use Rattle.adl_import.proofs.Parts.{one_up-push}
use Rattle.adl_import.proofs.folding.go_up.Goals as goal

pub returns : goal.returns
returns c =
    let outside : is_in_folder (inner_first c.args.parts.now.items) ≡ false = cc in
    one_up-push c.args.absolute c.args.parts.now.items c.args.up outside c.if-absolute.false c.requires
    ∙ ap (λ (l : List (Bor (List ℕ))). Some (inner_first l)) (sym c.in_ok-push.ensures.items)
