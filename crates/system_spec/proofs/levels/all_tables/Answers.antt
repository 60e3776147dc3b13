use Rattle.system_spec.proofs.Common.{Level, List, Page, Tables, [], ap, arch, arith, as_many, domain_tables, gather, layers, length, length-map, levels_of_addresses, map, page_mapping, page_table, pages_at, shapes, sym}
use Rattle.system_spec.proofs.Common.{tables_at, told, ℕ, ◌++◌, ◌∙◌, ◌∷◌, ◌≡◌}
use Rattle.cap_model.specs.declared.level.Arch.{Arch}
use Rattle.page_tables.specs.Counts.{levels_of}
use Rattle.page_tables.specs.Levels.{level_of}
use Rattle.vspace_layout.proofs.Joining.{gather_mapped}
use Rattle.system_spec.proofs.Domains.{addresses_same}
use Rattle.system_spec.proofs.Turning.{place_turn}
use Rattle.system_spec.proofs.levels.all_tables.Goals as goal

-- levels that are told by the addresses of pages are those of the domain's page tables
same_levels : (t : Tables) (d : ℕ) (a : Arch) (ps : List Page) (ls : List Level) → a ≡ arch t → ps ≡ pages_at t d
    → ls ≡ levels_of (shapes a) (map (λ (p : Page). p.vaddr) ps) → ls ≡ map level_of (tables_at t 0 0 d)
same_levels t d a ps ls e f g =
    g ∙ ap (λ (z : Arch). levels_of (shapes z) (map (λ (p : Page). p.vaddr) ps)) e
    ∙ ap (λ (z : List Page). levels_of (shapes (arch t)) (map (λ (p : Page). p.vaddr) z)) f
    ∙ sym (levels_of_addresses (arch t) 0 (map (page_mapping 0) (pages_at t d)) ∙ ap (levels_of (shapes (arch t)))
    (addresses_same 0 (pages_at t d)))

pub push_page_tables-requires : goal.push_page_tables-requires
push_page_tables-requires c =
    let t = told c.args.tables.now in
    let d = c.loop-number.number in
    let told_by = same_levels t d c.arch.result c.pages_at.result.now c.in_ok-levels.levels c.arch.ensures c.pages_at.ensures
    c.in_ok-levels.ensures in
    omega (
      arith,
      ap length (c.as_slice.ensures ∙ told_by),
      length-map (tables_at t 0 0 d) level_of,
      as_many 0 0 (layers (shapes (arch t)) (map (page_mapping 0) (pages_at t d))),
      c.requires.tables d,
    )

pub loop-number-preserved : goal.loop-number-preserved
loop-number-preserved c =
    let t = told c.args.tables.now in
    let d = c.loop-number.number in
    let told_by = same_levels t d c.arch.result c.pages_at.result.now c.in_ok-levels.levels c.arch.ensures c.pages_at.ensures
    c.in_ok-levels.ensures in
    place_turn (domain_tables t) t.flat.domains d [] _ _
    (omega arith) c.loop-number.invariant (λ x. c.in_ok-push_page_tables.ensures
    ∙ ap (λ z. c.loop-number.all ++ z) (ap (λ z. gather (λ j (level : Level). page_table d j level ∷ []) z) (c.as_slice.ensures
    ∙ told_by)
    ∙ gather_mapped (λ j (level : Level). page_table d j level ∷ []) level_of (tables_at t 0 0 d)))
