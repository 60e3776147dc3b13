use Rattle.std.specs.Prelude.{codes}
use Rattle.flat_laws.proofs.ShortTrees.{short_few}
use Rattle.front_end.proofs.LoadedWhole.{loaded_whole}
use Rattle.surface.proofs.source.show_source.Goals as goal

pub show_names-requires-clause-few : goal.show_names-requires-clause-few
show_names-requires-clause-few g c =
    let some = g.met.F.Files.some c.load.new.files in
    (loaded_whole some.0 (codes "app.camkes") c.in-Ok.source (c.in-Ok.ensures.loaded some.0 some.1)).few

pub show_names-requires-clause-members : goal.show_names-requires-clause-members
show_names-requires-clause-members g c =
    let some = g.met.F.Files.some c.load.new.files in
    short_few c.in-Ok.source (loaded_whole some.0 (codes "app.camkes") c.in-Ok.source
    (c.in-Ok.ensures.loaded some.0 some.1)).short
