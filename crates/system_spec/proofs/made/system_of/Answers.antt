use Rattle.system_spec.proofs.Common.{Frame, IsIn, List, Part, [], ap, arch, arith, entry, frame_parts, gather_turn, get_or, map, numbered, object, part_label, parts, read_place, refl, sections, subst, sym, take, together, told, ℕ, ◌++◌, ◌∙◌}
use Rattle.cap_model.specs.declared.object_labels.Labels.{Labels}
use Rattle.cap_model.specs.declared.level.Arch.{Arch}
use Rattle.cap_model.specs.declared.spec.Entry.{Entry}
use Rattle.cap_model.specs.declared.spec.Spec.{Spec}
use Rattle.system_spec.proofs.Bounds.{ends}
use Rattle.system_spec.proofs.Domains.{mapped_whole}
use Rattle.system_spec.proofs.Objects.{in_together}
use Rattle.system_spec.proofs.TableObjects.{tables_whole}
use Rattle.system_spec.proofs.There.{alone}
use Rattle.system_spec.proofs.Turning.{mapped_parts}
use Rattle.system_spec.proofs.made.system_of.Goals as goal

pub overflow_add-count : goal.overflow_add-count
overflow_add-count c =
    let all = (ends (told c.args.tables.now) c.requires.buildable.few).frames in
    omega (arith, c.requires.plan.marks.frames, all, c.len.ensures)

pub push_objects-requires-clause-there : goal.push_objects-requires-clause-there
push_objects-requires-clause-there c = λ p i.
    let t = told c.args.tables.now in
    let same = ap (take 6) (c.as_slice-sections.ensures ∙ c.requires.plan.sections) in
    let at = read_place (take 6 (sections t)) (take 6 c.as_slice-sections.result.now) c.loop-section.section-index _ same
    c.loop-section-test.true c.section-item.is in
    alone t p (in_together (take 6 (sections t)) c.loop-section.section-index c.section-item.result p at
    (subst (λ (z : List Part). IsIn p z) c.as_slice-parts.ensures i))

pub loop-section-preserved : goal.loop-section-preserved
loop-section-preserved c =
    let t = told c.args.tables.now in
    let xs = take 6 c.as_slice-sections.result.now in
    record {
      entries = gather_turn (λ k (ps : List Part). map (entry t) ps) xs _ c.loop-section.section-index _ [] _ _ refl
          c.loop-section-test.true c.section-item.is c.loop-section.invariant.entries (c.in_ok-push_objects.ensures.entries
          ∙ ap (λ z. c.loop-section.entries ++ map (entry t) z) c.as_slice-parts.ensures);
      labels = gather_turn (λ k (ps : List Part). map (part_label t) ps) xs _ c.loop-section.section-index _ [] _ _ refl
          c.loop-section-test.true c.section-item.is c.loop-section.invariant.labels (c.in_ok-push_objects.ensures.labels
          ∙ ap (λ z. c.loop-section.by_object ++ map (part_label t) z) c.as_slice-parts.ensures);
    }

pub push_tables-requires : goal.push_tables-requires
push_tables-requires c =
    let t = told c.args.tables.now in
    let same = c.as_slice-sections.ensures ∙ c.requires.plan.sections in
    let last = c.as_slice-parts-2.ensures ∙ c.index-sections-6.is ∙ ap (λ z. get_or z 6 c.index-sections-6.result) same in
    c.requires.plan.tables ∙ tables_whole t ∙ ap (map (λ (p : Part). object t p.what)) (sym last)

abbrev spec : Arch → List Entry → List (ℕ × ℕ) → Spec
spec a es lines = record { arch = a; entries = es; irqs = lines }

abbrev labels : List ℕ → Labels
labels ls = record { by_object = ls }

pub returns-clause-spec : goal.returns-clause-spec
returns-clause-spec c =
    let t = told c.args.tables.now in
    let same = c.as_slice-sections.ensures ∙ c.requires.plan.sections in
    let xs = take 6 c.as_slice-sections.result.now in
    let others = mapped_whole (entry t) xs c.loop-section.section-index _ c.loop-section-test.false
    c.loop-section.invariant.entries ∙ ap (λ z. map (entry t) (together (take 6 z))) same in
    let last = c.as_slice-parts-2.ensures ∙ c.index-sections-6.is ∙ ap (λ z. get_or z 6 c.index-sections-6.result) same in
    let tables = c.in_ok-push_tables.ensures.entries
    ∙ ap (λ z. z ++ map (entry t) c.as_slice-parts-2.result.now) others
    ∙ ap (λ z. map (entry t) (together (take 6 (sections t))) ++ map (entry t) z) last in
    let entries = c.in_ok-push_frames.ensures.entries
    ∙ ap (λ z. z ++ map (entry t) (numbered Frame (frame_parts t.spaces.frames))) tables ∙ mapped_parts t (entry t) in
    ap (λ z. spec z c.push_frames.new.entries c.in_ok-irqs.irqs) c.arch.ensures
    ∙ ap (λ z. spec (arch t) z c.in_ok-irqs.irqs) entries
    ∙ ap (spec (arch t) (map (entry t) (parts t))) c.in_ok-irqs.ensures

pub returns-clause-labels : goal.returns-clause-labels
returns-clause-labels c =
    let t = told c.args.tables.now in
    let same = c.as_slice-sections.ensures ∙ c.requires.plan.sections in
    let others = mapped_whole (part_label t) (take 6 c.as_slice-sections.result.now) c.loop-section.section-index _
    c.loop-section-test.false c.loop-section.invariant.labels ∙ ap (λ z. map (part_label t) (together (take 6 z))) same in
    let last = c.as_slice-parts-2.ensures ∙ c.index-sections-6.is ∙ ap (λ z. get_or z 6 c.index-sections-6.result) same in
    let tables = c.in_ok-push_tables.ensures.labels
    ∙ ap (λ z. z ++ map (part_label t) c.as_slice-parts-2.result.now) others
    ∙ ap (λ z. map (part_label t) (together (take 6 (sections t))) ++ map (part_label t) z) last in
    ap labels (c.in_ok-push_frames.ensures.labels
    ∙ ap (λ z. z ++ map (part_label t) (numbered Frame (frame_parts t.spaces.frames))) tables ∙ mapped_parts t (part_label t))
