use Rattle.cap_machine.proofs.Booting.{boot_fits}
use Rattle.cap_machine.proofs.Fitting.{step_fits}
use Rattle.cap_machine.proofs.laws.states_keep_fitting.Goals as goal

pub returns-clause-boot : goal.returns-clause-boot
returns-clause-boot c = boot_fits

pub returns-clause-step : goal.returns-clause-step
returns-clause-step c = step_fits
