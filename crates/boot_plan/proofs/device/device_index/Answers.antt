use Rattle.boot_plan.proofs.Common.{[], ap, arith, sym, ◌++◌, ◌∙◌, ◌∷◌}
use Rattle.boot_plan.proofs.Pages.{found_none, found_no_pages, found_pages, index_told}
use Rattle.boot_plan.proofs.Usual.{nowhere, region_got}
use Rattle.boot_plan.proofs.device.device_index.Goals as goal
use Rattle.boot_plan.proofs.device.device_index.Goals.{then-has_pages+in_ok-push, else-has_pages}

pub loop-region-init : goal.loop-region-init
loop-region-init c = rw c.new-found.ensures.items (found_none c.args.regions.now)

pub loop-region-preserved : goal.loop-region-preserved
loop-region-preserved c =
    let rs = c.args.regions.now in
    let i = c.loop-region.region-index in
    let found = c.loop-region.found.items in
    let sound = region_got rs i nowhere c.requires c.loop-region-test.true in
    elim c.if-has_pages.branch [
      | then-has_pages+in_ok-push w ↦ rw w.found-is (found_pages rs i nowhere found w.push.new.self.items c.loop-region-test.true
          sound (sym c.has_pages.ensures ∙ w.if-has_pages.true) c.loop-region.invariant
          (w.in_ok-push.ensures.items ∙ ap (λ p. found ++ p ∷ []) w.pages.ensures))
      | else-has_pages w ↦ rw w.found-is (found_no_pages rs i nowhere found c.loop-region-test.true (sym c.has_pages.ensures
          ∙ w.if-has_pages.false) c.loop-region.invariant)
    ]

pub returns : goal.returns
returns c = index_told c.args.regions.now c.loop-region.region-index c.loop-region.found.items c.as_slice.result.now c.new.result
    (omega arith) c.loop-region.invariant c.as_slice.ensures.value c.new.ensures
