-- A canonical text is a text of its spec.
use Rattle.capdl_write.proofs.Common.{CNode, Cap, Each, Entry, Holder, Id, Irq, IsSpecSpelled, IsWritable, List, None, Object, Option, Pages, Piece, Seen, SlotLine, Some, Span, Spec, Thread, [], and_parts, ap}
use Rattle.capdl_write.proofs.Common.{brace_r, canonical, caps_of, caps_pieces, codes, differ, drop_all, false, flat_map, held_pieces, holders_pieces, is_at, kind_fields, knows, laid, last_pieces, length, length-append, list_all, map, off_in}
use Rattle.capdl_write.proofs.Common.{past_in, pieces, refl, rise, rules, slot_ranges, some, spec_of, subst, suc, sum, sym, tokens, true, twice_in, twices, unknown_in, unknowns, zero-add, ℕ, ◌+◌, ◌==◌, ◌∙◌, ◌∷◌, ◌≡◌, ◌≤◌}
use Rattle.std.proofs.lemmas.List.Sums.{sum_by-cons}
use Rattle.cap_model.specs.declared.kind.Kind.TheVariants as kinds
use Rattle.capdl_text.specs.Limits.{limits, past}
use Rattle.capdl_text.specs.Texts.{Text, is_long}
use Rattle.capdl_text.specs.TreeFaults.{tree_faults}
use Rattle.capdl_write.proofs.FineText.{fine_pieces}
use Rattle.capdl_write.proofs.Known.{KnowsAll, found_at, known_object}
use Rattle.capdl_write.proofs.Laying.{laid_lexes}
use Rattle.capdl_write.proofs.Lines.{all_laid}
use Rattle.capdl_write.proofs.ReadBack.{objects_at}
use Rattle.capdl_write.proofs.ReadText.{slots_at, cspace_at, irq_slot_at, lines_at, held_at, holders_at, tree_at, tree_spelled}
use Rattle.capdl_write.proofs.Says.{entries_back, lines_back}
use Rattle.capdl_write.proofs.Shown.{placed, seen_tokens}
use Rattle.capdl_write.proofs.Sound.{IsFine, all_fine, all_fields_once, flat_none, held_names_once, irq_names_once, irqs_found, irqs_suit, names_once, nil_both, numbers_once, objects_suit}

-- ---- limits

past_none : (most : ℕ) (ids : List Id) → length ids ≤ most → past most ids ≡ []
unfolding past
past_none most ids l = let e = drop_all most ids l in rw e refl

objects_counted : (pl : List Piece → Span) (es : List Entry) (more : List Piece)
    → length (map (λ o. o.id) (objects_at pl es more)) ≡ length es
objects_counted pl [] more = refl
objects_counted pl (e ∷ es) more = ap (λ (n : ℕ). suc n) (objects_counted pl es more)

slots_counted : (pl : List Piece → Span) (spec : Spec) (ss : List (ℕ × Cap)) (more : List Piece)
    → length (map (λ (s : SlotLine). s.object) (slots_at pl spec ss more)) ≡ length ss
slots_counted pl spec [] more = refl
slots_counted pl spec (s ∷ ss) more = ap (λ (n : ℕ). suc n) (slots_counted pl spec ss more)

tcb_counted : (pl : List Piece → Span) (spec : Spec) (c v : Option ℕ) (b : Option Cap) (more : List Piece)
    → length (map (λ (s : SlotLine). s.object) (cspace_at pl spec c v b more)) ≡ some c + some v + some b
tcb_counted pl spec None None (Some b) more = refl
tcb_counted pl spec None (Some v) (Some b) more = refl
tcb_counted pl spec (Some c) None (Some b) more = refl
tcb_counted pl spec (Some c) (Some v) (Some b) more = refl
tcb_counted pl spec _ _ _ more = refl

irq_counted : (pl : List Piece → Span) (spec : Spec) (n : Option ℕ) (more : List Piece)
    → length (map (λ (s : SlotLine). s.object) (irq_slot_at pl spec n more)) ≡ some n
irq_counted pl spec None more = refl
irq_counted pl spec (Some n) more = refl

lines_counted : (pl : List Piece → Span) (spec : Spec) (o : Object) (more : List Piece)
    → length (map (λ (s : SlotLine). s.object) (lines_at pl spec o more)) ≡ caps_of o
lines_counted pl spec (CNode bits slots) more = slots_counted pl spec slots (brace_r (codes "\n") ∷ more)
lines_counted pl spec (Thread tcb) more = tcb_counted pl spec tcb.cspace tcb.vspace tcb.buffer (brace_r (codes "\n") ∷ more)
lines_counted pl spec (Pages level slots) more = slots_counted pl spec slots (brace_r (codes "\n") ∷ more)
lines_counted pl spec (Irq n) more = irq_counted pl spec n (brace_r (codes "\n") ∷ more)
lines_counted pl spec _ more = refl

abbrev caps_in : List Holder → List Id
caps_in hs = flat_map (λ h. map (λ s. s.object) h.slots) hs

held_counted : (pl : List Piece → Span) (name : List ℕ) (place : Span) (lines : List SlotLine) (hs : List Holder)
    → length (caps_in (held_at pl name place lines hs)) ≡ length (map (λ (s : SlotLine). s.object) lines) + length (caps_in hs)
held_counted pl name place [] hs = sym (zero-add (length (caps_in hs)))
held_counted pl name place (s ∷ ss) hs = length-append (map (λ (s : SlotLine). s.object) (s ∷ ss)) (caps_in hs)

caps_counted : (pl : List Piece → Span) (spec : Spec) (es : List Entry) (more : List Piece)
    → length (caps_in (holders_at pl spec es more)) ≡ sum (map (λ (e : Entry). caps_of e.object) es)
caps_counted pl spec [] more = refl
caps_counted pl spec (e ∷ es) more =
    let rest = holders_pieces spec es more in let a = lines_counted pl spec e.object rest in
    held_counted pl e.name (pl (held_pieces spec e.name e.object rest)) (lines_at pl spec e.object rest)
    (holders_at pl spec es more) ∙ ap (λ (n : ℕ). n + length (caps_in (holders_at pl spec es more))) a
    ∙ ap (λ (n : ℕ). caps_of e.object + n) (caps_counted pl spec es more)
    ∙ sym (sum_by-cons (λ (n : ℕ). n) (caps_of e.object) (map (λ (d : Entry). caps_of d.object) es))

-- ---- no fault

module _ (pl : List Piece → Span) (spec : Spec) (w : IsWritable spec) where
  all_known : KnowsAll spec (knows (tree_at pl spec))
  all_known j e g = found_at pl spec.arch 0 spec.entries (caps_pieces spec) j e w.kept.names g
      ∙ ap (λ (p : ℕ). Some (known_object spec.arch p e.object)) (zero-add j)

  fine : Each (IsFine spec.arch (knows (tree_at pl spec))) (holders_at pl spec spec.entries (last_pieces spec))
  fine = all_fine pl spec (knows (tree_at pl spec)) all_known w.kept (last_pieces spec)

  irq_ends : List Piece
  irq_ends = brace_r (codes "\n") ∷ []

  irqs_are : (rise spec.irqs ≡ true) × (differ (λ a b. a == b) (map (λ l. l.1) spec.irqs) ≡ true)
      × (list_all (λ l. is_at spec kinds.Irq l.1) spec.irqs ≡ true)
  irqs_are = search (rules, and_parts)

  none_unmet : {A : Type 0} (xs : List A) → list_all (λ (x : A). true) xs ≡ true
  none_unmet [] = refl
  none_unmet (x ∷ xs) = none_unmet xs

  no_unknown : unknowns (knows (tree_at pl spec)) (tree_at pl spec) ≡ []
  no_unknown =
      nil_both _ _ (flat_none (unknown_in (knows (tree_at pl spec))) (IsFine spec.arch (knows (tree_at pl spec)))
      (holders_at pl spec spec.entries (last_pieces spec)) (λ h f. f.found) fine)
      (irqs_found pl spec (knows (tree_at pl spec)) all_known spec.irqs (brace_r (codes "\n") ∷ []) irqs_are.2)

  none_twice : twices (tree_at pl spec) ≡ []
  none_twice =
      nil_both _ _ (nil_both _ _ (nil_both _ _ (nil_both _ _ (nil_both _ _
      (names_once pl spec (knows (tree_at pl spec)) all_known (caps_pieces spec) w.kept)
      (all_fields_once pl spec (knows (tree_at pl spec)) all_known spec.entries (caps_pieces spec)))
      (held_names_once pl spec (knows (tree_at pl spec)) all_known (last_pieces spec) w.kept))
      (flat_none twice_in (IsFine spec.arch (knows (tree_at pl spec))) (holders_at pl spec spec.entries (last_pieces spec))
      (λ h f. f.once) fine))
      (numbers_once pl spec (knows (tree_at pl spec)) all_known (λ k. false) spec.irqs (brace_r (codes "\n") ∷ []) irqs_are.0
      (none_unmet spec.irqs)))
      (irq_names_once pl spec (knows (tree_at pl spec)) all_known (λ n. false) spec.irqs (brace_r (codes "\n") ∷ []) irqs_are.1
      irqs_are.2 (none_unmet spec.irqs))

  all_suit : kind_fields (knows (tree_at pl spec)) (tree_at pl spec) ≡ []
  all_suit =
      nil_both _ _ (nil_both _ _ (objects_suit pl spec (knows (tree_at pl spec)) all_known spec.entries (caps_pieces spec)
      w.kept.objects) (flat_none (off_in spec.arch (knows (tree_at pl spec))) (IsFine spec.arch (knows (tree_at pl spec)))
      (holders_at pl spec spec.entries (last_pieces spec)) (λ h f. f.suits) fine))
      (irqs_suit pl spec (knows (tree_at pl spec)) all_known spec.irqs (brace_r (codes "\n") ∷ []) irqs_are.2)

  all_below : slot_ranges (knows (tree_at pl spec)) (tree_at pl spec) ≡ []
  all_below = flat_none (past_in (knows (tree_at pl spec))) (IsFine spec.arch (knows (tree_at pl spec)))
      (holders_at pl spec spec.entries (last_pieces spec)) (λ h f. f.below) fine

  none_past : limits (tree_at pl spec) ≡ []
  none_past = search (rules, nil_both, past_none, tree_at, objects_counted, caps_counted)

  pub no_faults : tree_faults (tree_at pl spec) ≡ []
  no_faults = nil_both _ _ no_unknown (nil_both _ _ none_twice (nil_both _ _ all_suit (nil_both _ _ all_below none_past)))

  -- ---- what it says

  spec_is : (a : List Entry) (b : List (ℕ × ℕ)) → a ≡ spec.entries → b ≡ spec.irqs
      → spec ≡ (let s : Spec = record { arch = spec.arch; entries = a; irqs = b } in s)
  spec_is a b p q = rw (p, q) refl

  pub says : spec ≡ spec_of (tree_at pl spec)
  says =
      spec_is _ _ (entries_back pl spec (knows (tree_at pl spec)) all_known (caps_pieces spec) (last_pieces spec) w.kept)
      (lines_back pl spec (knows (tree_at pl spec)) all_known [] spec.irqs (brace_r (codes "\n") ∷ []) irqs_are.0 irqs_are.2)

-- the canonical text of a writable spec is a text of it
pub canonical_text : (spec : Spec) → IsWritable spec → Text (canonical spec) spec
canonical_text spec w =
    let ps = pieces spec in
    let total : ℕ = length (laid ps) in
    let same : canonical spec ≡ laid ps = all_laid spec in
    subst (λ (bytes : List ℕ). Text bytes spec) (sym same)
    (record {
      few = ap is_long (sym same) ∙ w.short;
      tokens = tokens total ps;
      lexes = laid_lexes total ps (fine_pieces spec w);
      tree = tree_at (placed total) spec;
      spelled = subst (λ (seen : List Seen). IsSpecSpelled (tree_at (placed total) spec) seen) (sym (seen_tokens ps))
          (tree_spelled (placed total) spec w);
      sound = no_faults (placed total) spec w;
      means = says (placed total) spec w;
    })
