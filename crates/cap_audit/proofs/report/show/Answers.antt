use Rattle.cap_audit.proofs.Common.{IsAll, Made, subst, sym}
use Rattle.cap_audit.proofs.Assembling.{all_shown, begun_on}
use Rattle.cap_audit.proofs.report.show.Goals as goal

pub hold_all-requires-clause-all : goal.hold_all-requires-clause-all
hold_all-requires-clause-all c = subst (λ (x : Made). IsAll x.spec x.found) (sym c.in_ok-show_boot.ensures.same) c.requires.all

pub show_deeds-requires : goal.show_deeds-requires
show_deeds-requires c = begun_on _ _ _ (begun_on _ _ _ c.requires c.in_ok-show_boot.ensures) c.in_ok-hold_all.ensures

pub show_calls-requires : goal.show_calls-requires
show_calls-requires c =
    begun_on _ _ _ (begun_on _ _ _ (begun_on _ _ _ c.requires c.in_ok-show_boot.ensures) c.in_ok-hold_all.ensures)
    c.in_ok-show_deeds.ensures

pub returns : goal.returns
returns c =
    all_shown c.args.making.now c.show_boot.new.making c.hold_all.new.self c.show_deeds.new.making c.show_calls.new.making
    c.requires c.in_ok-show_boot.ensures c.in_ok-hold_all.ensures c.in_ok-show_deeds.ensures
    c.in_ok-show_calls.ensures
