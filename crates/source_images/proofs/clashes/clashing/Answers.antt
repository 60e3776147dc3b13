use Rattle.source_images.proofs.Common.{ap, arith, clashes_with, length-set, list_any, placed_told, rules, sections_told, shares, sym, true, ◌∙◌, ◌≡◌}
use Rattle.source_images.proofs.Clashing.{all_marked, alone, any-shares, marked_turn, unmarked_turn}
use Rattle.source_images.proofs.SectionsTold.{told_at}
use Rattle.source_images.proofs.clashes.clashing.Goals as goal
use Rattle.source_images.proofs.clashes.clashing.Goals.{then-shares_any, else-shares_any}

pub index_mut-requires : goal.index_mut-requires
index_mut-requires c =
    let below = c.requires _ (told_at c.args.sections.now c.loop-placed.placed-index c.placed-item.result c.loop-placed-test.true
    c.placed-item.is) in
    omega (arith, below, c.loop-placed.invariant.count)

pub loop-placed-preserved : goal.loop-placed-preserved
loop-placed-preserved c =
    let ps = c.args.sections.now in
    let all = sections_told ps in
    let i = c.loop-placed.placed-index in
    let p = c.placed-item.result in
    let marks = c.loop-placed.marks.items in
    let test : list_any (clashes_with (placed_told p)) all ≡ c.shares_any.result =
    sym (any-shares all (placed_told p) c.in_ok-index.index c.in_ok-index.ensures)
    ∙ ap (λ r. list_any (shares r) c.in_ok-index.index) (sym c.region_of.ensures) ∙ sym c.shares_any.ensures in
    let below = c.requires _ (told_at ps i p c.loop-placed-test.true c.placed-item.is) in
    elim c.if-shares_any.branch [
      | then-shares_any w ↦ rw w.marks-is (record {
        count = length-set marks p.image true ∙ c.loop-placed.invariant.count;
        rest = marked_turn all ps i p marks c.loop-placed-test.true c.placed-item.is c.loop-placed.invariant.rest
            (test ∙ w.if-shares_any.true) (omega (arith, below, c.loop-placed.invariant.count));
      })
      | else-shares_any w ↦ rw w.marks-is (record {
        count = c.loop-placed.invariant.count;
        rest = unmarked_turn all ps i p marks c.loop-placed-test.true c.placed-item.is c.loop-placed.invariant.rest
            (test ∙ w.if-shares_any.false);
      })
    ]

pub returns-then-sections-lt2-clause-marks : goal.returns-then-sections-lt2-clause-marks
returns-then-sections-lt2-clause-marks c = λ m. alone c.args.sections.now c.in_ok-marks.marks.items c.args.images m
    c.if-sections-lt2.true (c.in_ok-marks.ensures.items_if_clones_equal (λ y e. search rules))

pub returns-clause-marks : goal.returns-clause-marks
returns-clause-marks c = λ m. all_marked (sections_told c.args.sections.now) c.args.sections.now c.loop-placed.placed-index m _
    c.loop-placed-test.false (c.loop-placed.invariant.rest m)
