use Rattle.vspace_layout.proofs.Common.{List, RegionsFit, [], ap, arch_of, gather, length, map, region_part, rules, section_page, section_part, sections_end, starting, starts_in, subst, sym, ℕ, ◌++◌, ◌∙◌, ◌≡◌}
use Rattle.vspace_layout.proofs.Starting.{low_base, regions_fit, starting_same, starts_length}
use Rattle.vspace_layout.proofs.lay.mapped_of.Goals as goal

pub push_regions-requires-clause-each : goal.push_regions-requires-clause-each
push_regions-requires-clause-each c = ap (λ (z : List ℕ). length z) (c.as_slice.ensures ∙ c.in_ok-starts.ensures)
    ∙ starts_length c.sections_end-base.result c.args.regions.now

pub push_regions-requires-clause-fit : goal.push_regions-requires-clause-fit
push_regions-requires-clause-fit c =
    let rs = c.args.regions.now in
    let base = c.sections_end-base.ensures ∙ ap sections_end c.arch.ensures in
    subst (λ z. RegionsFit z rs) (sym (c.as_slice.ensures ∙ c.in_ok-starts.ensures ∙ ap (λ b. starts_in b rs) base))
    (regions_fit (sections_end (arch_of c.args.images.now.images)) rs (low_base (arch_of c.args.images.now.images))
    c.requires.few)

pub returns : goal.returns
returns c =
    let rs = c.args.regions.now in
    let settled = c.args.wiring.now.settled in
    let end = sections_end (arch_of c.args.images.now.images) in
    let base = c.sections_end-base.ensures ∙ ap sections_end c.arch.ensures in
    let none : c.in_ok-pages.pages.items ≡ [] = search rules in
    let front : c.push_sections.new.pages.items ≡ section_part c.args.images.now c.args.leaves.now =
    c.in_ok-push_sections.ensures ∙ ap (λ z. z ++ map section_page c.in_ok-sections.sections) none
    ∙ ap (map section_page) c.in_ok-sections.ensures in
    c.from_vec.ensures ∙ c.in_ok-push_regions.ensures
    ∙ ap (λ z. c.push_sections.new.pages.items ++ gather (starting settled z) rs) (c.as_slice.ensures ∙ c.in_ok-starts.ensures
    ∙ ap (λ b. starts_in b rs) base)
    ∙ ap (λ z. c.push_sections.new.pages.items ++ z) (starting_same settled end rs)
    ∙ ap (λ z. z ++ region_part settled end rs) front
