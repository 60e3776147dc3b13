-- What the tables of a source without faults, and of its images, are fit for.
use Rattle.arch_compile.proofs.Common.{Contents, Images, IsKept, Source, spec_of, system_tables}
use Rattle.spec_laws.proofs.Fits.{tables_are_fit}
use Rattle.spec_laws.proofs.Keeping.{spec_kept}
use Rattle.spec_laws.proofs.SourceConnected.{tables_are_connected}
use Rattle.spec_laws.specs.Connected.{IsConnected}
use Rattle.spec_laws.specs.Fit.{IsFit}
use Rattle.arch_compile.proofs.Facts.{AreFacts}

module _ {contents : Contents} (s : Source) (images : Images) (facts : AreFacts contents s images) where
  pub made_fit : IsFit (system_tables s images)
  made_fit =
      let f = facts.faultless in
      tables_are_fit s images facts.short f.names f.types f.flat f.settings facts.numbered facts.sound facts.space
      facts.slot facts.page

  pub made_kept : IsKept (spec_of (system_tables s images))
  made_kept = spec_kept (system_tables s images) made_fit

  pub made_connected : IsConnected (system_tables s images)
  made_connected =
      let f = facts.faultless in
      tables_are_connected s images facts.short f.names f.types f.flat f.settings facts.numbered facts.sound facts.space
      facts.slot facts.page
