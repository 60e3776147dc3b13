use Rattle.front_laws.proofs.Devices.{from_no_refusal, from_refusal, in_no_refusal, in_refusal}
use Rattle.front_laws.proofs.text_laws.devices_serve_one_object.Goals as goal

pub returns-clause-first : goal.returns-clause-first
returns-clause-first c = λ rs ns x. (from_refusal rs ns x, in_refusal rs ns x)

pub returns-clause-none : goal.returns-clause-none
returns-clause-none c = λ rs ns. (from_no_refusal rs ns, in_no_refusal rs ns)
