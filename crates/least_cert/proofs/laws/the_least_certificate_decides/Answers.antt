use Rattle.least_cert.proofs.LeastKeeps.{least_keeps, least_valid, least_reached}
use Rattle.least_cert.proofs.laws.the_least_certificate_decides.Goals as goal

pub returns-clause-keeps : goal.returns-clause-keeps
returns-clause-keeps c = λ spec labels. least_keeps spec labels

pub returns-clause-decides : goal.returns-clause-decides
returns-clause-decides c = λ spec labels policy cert least is v. least_valid spec labels least is policy cert v

pub returns-clause-reached : goal.returns-clause-reached
returns-clause-reached c = λ spec labels least is l a m reaches differ. least_reached spec labels least is l a m reaches differ
