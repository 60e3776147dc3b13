use Rattle.camkes_tool.proofs.Common.{generated, refl, sym, ◌∙◌}
use Rattle.camkes_tool.proofs.generation.compiled.Goals as goal

-- what the files hold after the call is what they held before it
pub returns : goal.returns
returns c =
    let after = c.compile.new.files in
    c.compile.ensures.compiled (generated c.args.count) (sym (c.compile.ensures.kept.told_still after refl ∙ c.in-Ok.ensures))
