use Rattle.camkes_tool.proofs.Common.{HoldsPlain, Spec, subst, sym, system_tables}
use Rattle.arch_compile.specs.LayoutFaults.{images_beside}
use Rattle.arch_compile.proofs.Facts.{build_facts}
use Rattle.arch_compile.proofs.MadeTables.{made_connected}
use Rattle.spec_laws.proofs.Connections.{holds_plain}
use Rattle.camkes_tool.proofs.Staying.{run_static}
use Rattle.camkes_tool.proofs.build_flow.memory_of_builds_is_static.Goals as goal

pub returns : goal.returns
returns c = λ root contents b is steps s run.
    let source = b.meaning.source in
    let images = images_beside contents source in
    let connected = made_connected source images (build_facts root contents b is) in
    let plain : HoldsPlain b.spec = subst (λ (z : Spec). HoldsPlain z) (sym is.made.spec_is)
    (holds_plain (system_tables source images) connected) in
    run_static b.spec plain steps s run
