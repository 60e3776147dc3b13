use Rattle.view_tool.proofs.Common.{LintsFile, List, inl, inr, subst, ℕ}
use Rattle.view_tool.proofs.lint.lint_fault.Goals as goal

pub returns-in-Ok-clause-fits : goal.returns-in-Ok-clause-fits
returns-in-Ok-clause-fits g c m told =
    let before = g.F.Files.faults c.args.files.now in
    let now = g.F.Files.faults c.lint_file.new.files in
    inl (
      c.in-Ok.ensures.cases.1,
      subst (λ (n : List ℕ). LintsFile m before now n c.args.fault.now c.lint_file.result)
          c.in-Ok.ensures.cases.0 (c.lint_file.ensures.fits m told),
    )

pub returns-in-Err-clause-fits : goal.returns-in-Err-clause-fits
returns-in-Err-clause-fits g c m told = inr (c.in-Err.ensures.cases.0, c.faulty.ensures)
