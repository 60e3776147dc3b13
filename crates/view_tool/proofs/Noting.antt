-- Notes that a loop puts together, one for each edge.
use Rattle.view_tool.proofs.Common.{Answer, AreFewNotes, AreNotes, ArePageNotes, Bool, Err, Explains, Grounds, IfOk, IsNote, List, NoMemory, Ok, OnErr, Page, Result, Tells, [], ap, false, get_or, graph_of, label_at, leb, length, of_build, of_front}
use Rattle.view_tool.proofs.Common.{page_text, subst, sym, tables_of, take, take_all, true, ℕ, ◌++◌, ◌+◌, ◌<◌, ◌∙◌, ◌∷◌, ◌≡◌, ◌≤◌}
use Rattle.std.proofs.lemmas.List.{take_more}
use Rattle.cap_model.specs.declared.edge.Edge.{Edge}
use Rattle.explain.specs.declared.reason.ExplainError.{ExplainError}
use Rattle.explain.specs.declared.reason.Reason.{Reason}
use Rattle.front_end.specs.declared.phases.FrontEnd.{FrontEnd}
use Rattle.arch_compile.specs.declared.building.Build.{Build}
use Rattle.system_spec.specs.declared.map_line.MapLine.{MapLine}
use Rattle.view_tool.specs.Answers as answers
use Rattle.view_tool.specs.declared.answer.Answer.TheVariants as shown

module _ (g : Grounds) where
  -- what explaining an edge answers, reason, is its note
  pub note_is :
      (e : Edge) (reason : Result Reason ExplainError) (r : Result (List ℕ) NoMemory)
      → Explains (tables_of g.source g.flat g.settled) (label_at g.policy.labels e.from) e.authority
      (label_at g.policy.labels e.to) reason
      → IfOk r (Tells g reason) → IfOk r (IsNote g e)
  note_is e reason (Ok note) x t = record { reason = reason; explains = x; tells = t }
  note_is e reason (Err m) x t = tt

  one_more : (es : List Edge) (ns : List (List ℕ)) (e : Edge) (n : List ℕ) → AreNotes g es ns → IsNote g e n
      → AreNotes g (es ++ e ∷ []) (ns ++ n ∷ [])
  one_more [] [] e n h is = (is, tt)
  one_more (x ∷ es) (y ∷ ns) e n h is = (h.0, one_more es ns e n h.1 is)
  one_more [] (y ∷ ns) e n h is = absurd h
  one_more (x ∷ es) [] e n h is = absurd h

  pub notes_turn : (es : List Edge) (i : ℕ) (e : Edge) (ns : List (List ℕ)) (n : List ℕ) → i < length es → e ≡ get_or es i e
      → AreNotes g (take i es) ns → IsNote g e n
      → AreNotes g (take (i + 1) es) (ns ++ n ∷ [])
  notes_turn es i e ns n within here h is =
      subst (λ (z : List Edge). AreNotes g z (ns ++ n ∷ [])) (ap (λ (w : Edge). take i es ++ w ∷ []) here
      ∙ sym (take_more es i e within))
      (one_more (take i es) ns e n h is)

  pub notes_all : (es : List Edge) (i : ℕ) (ns : List (List ℕ)) → length es ≤ i → AreNotes g (take i es) ns → AreNotes g es ns
  notes_all es i ns h are = subst (λ (z : List Edge). AreNotes g z ns) (take_all i es h) are

-- a page has the notes of few edges
pub few_notes : (g : Grounds) (r : Result (List (List ℕ)) NoMemory) → leb (length g.policy.edges) 2000 ≡ true
    → IfOk r (AreNotes g g.policy.edges) → IfOk r (ArePageNotes g)
few_notes g (Ok ns) e h = subst (λ (b : Bool). AreFewNotes b g ns) (sym e) h
few_notes g (Err m) e h = tt

-- and none of many
pub no_notes : (g : Grounds) (ns : List (List ℕ)) → leb (length g.policy.edges) 2000 ≡ false → ns ≡ [] → ArePageNotes g ns
no_notes g ns e h = subst (λ (b : Bool). AreFewNotes b g ns) (sym e) h

pub notes_drawn :
    (f : FrontEnd) (ns : List (List ℕ)) (r : Result (List ℕ) NoMemory) (a : Answer) → AreNotes (of_front f) f.policy.edges ns
    → IfOk r (λ t. t ≡ graph_of f.policy ns) → IfOk r (λ t. a ≡ shown.Shown t) → OnErr r (a ≡ shown.NoMemory)
    → answers.Explains f a
notes_drawn f ns (Ok t) a are g ok none = subst (answers.Explains f) (sym ok) (ns, are, g)
notes_drawn f ns (Err m) a are g ok none = subst (answers.Explains f) (sym none) tt

pub page_shown :
    (root : List ℕ) (b : Build) (ns : List (List ℕ)) (r : Result (List ℕ) NoMemory) (a : Answer) → ArePageNotes (of_build b) ns
    → IfOk r (λ t. t ≡ page_text (answers.page_of root b ns)) → IfOk r (λ t. a ≡ shown.Shown t) → OnErr r (a ≡ shown.NoMemory)
    → answers.Assesses root b a
page_shown root b ns (Ok t) a are g ok none = subst (answers.Assesses root b) (sym ok) (ns, are, g)
page_shown root b ns (Err m) a are g ok none = subst (answers.Assesses root b) (sym none) tt

-- a page by its root, its map and its notes
abbrev page_with : Build → List ℕ → List MapLine → List (List ℕ) → Page
page_with b root map notes =
    record { root = root; names = answers.named b; settled = b.meaning.settled; map = map; policy = b.policy; notes = notes }

-- what is drawn of a page is drawn of any whose root, map and notes are the same
pub page_drawn :
    (F : Page → List ℕ) (b : Build) (r : Result (List ℕ) NoMemory) (root again : List ℕ) (map more : List MapLine)
    (notes others : List (List ℕ)) → again ≡ root → more ≡ map → others ≡ notes
    → IfOk r (λ t. t ≡ F (page_with b again more others)) → IfOk r (λ t. t ≡ F (page_with b root map notes))
page_drawn F b r root again map more notes others e f g h =
    subst (λ (x : List ℕ). IfOk r (λ t. t ≡ F (page_with b x map notes))) e
    (subst (λ (x : List MapLine). IfOk r (λ t. t ≡ F (page_with b again x notes))) f
    (subst (λ (x : List (List ℕ)). IfOk r (λ t. t ≡ F (page_with b again more x))) g h))
