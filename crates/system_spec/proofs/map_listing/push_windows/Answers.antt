use Rattle.system_spec.proofs.Common.{Domain, Window, [], ap, arith, domain_windows, gather, subst, sym, told, window_line, ◌++◌, ◌∙◌, ◌∷◌}
use Rattle.system_spec.specs.Buildable.{AreSized}
use Rattle.system_spec.proofs.Turning.{place_turn}
use Rattle.system_spec.proofs.map_listing.push_windows.Goals as goal

pub push_windows_of-requires : goal.push_windows_of-requires
push_windows_of-requires c = subst AreSized (sym c.windows_at.ensures) (c.requires.windows.sized c.loop-number.number)

pub loop-number-preserved : goal.loop-number-preserved
loop-number-preserved c =
    let t = told c.args.tables.now in
    place_turn (λ k (x : Domain). domain_windows t k) t.flat.domains c.loop-number.number c.args.lines.now _ _ (omega arith)
    c.loop-number.invariant
    (λ x. c.in_ok-push_windows_of.ensures ∙ ap (λ z. c.loop-number.lines ++ gather (λ j (w : Window). window_line w ∷ []) z)
    c.windows_at.ensures)
