use Rattle.system_spec.proofs.Common.{AreShown, subst, sym}
use Rattle.system_spec.proofs.levels.push_tables_at.Goals as goal

pub mappings-requires : goal.mappings-requires
mappings-requires c = subst (AreShown c.args.frames) (sym c.pages_at.ensures) c.requires.shown
