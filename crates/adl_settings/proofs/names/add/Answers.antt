use Rattle.adl_settings.proofs.Unvalued.{or_from_cond}
use Rattle.adl_settings.specs.Named.{is_named}
use Rattle.adl_settings.proofs.names.add.Goals as goal

pub returns : goal.returns
returns c = λ n. or_from_cond c.args.name.now n _ (is_named c.args.names.now.keys n)
    (c.in_ok-insert.ensures.updates.0 (record { ref_ptr = (0, 0); now = n }))
