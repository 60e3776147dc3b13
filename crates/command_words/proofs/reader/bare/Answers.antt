use Rattle.command_words.proofs.Building.{bare_app}
use Rattle.command_words.proofs.reader.bare.Goals as goal

pub returns : goal.returns
returns c = bare_app _ _ _ _ _ _ c.new.ensures.app c.no_binary_name.ensures c.disable_help_flag.ensures
    c.disable_help_subcommand.ensures
    c.disable_version_flag.ensures c.subcommand_required.ensures
