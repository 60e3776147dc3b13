-- What listing and explaining answer is what the source assigns over its hierarchy.
use Rattle.source_commands.proofs.Common.{Answer, Assigned, Authority, Bool, Contents, Edge, IsAnswer, IsAnswered, IsAsked, IsIn, IsListing, IsReasoned, List, Listing, None, NotAssigned, Ok, Some, Source, [], ap, authority_of, cond, false}
use Rattle.source_commands.proofs.Common.{first_edge_fault, first_front_fault, first_list_fault, flat_of, get_or, in_gather, in_place, inl, inr, is_assigned, label_lines, label_texts, listing_text, map, refl, slice_get-get_or, source_tables, subst}
use Rattle.source_commands.proofs.Common.{text_of, true, unwrap_or, ℕ, ◌++◌, ◌+◌, ◌==◌, ◌↔◌, ◌∙◌, ◌∷◌, ◌≡◌, ◌≢◌}
use Rattle.std.proofs.lemmas.Bool.{eqb-true}
use Rattle.std.proofs.lemmas.Iterator.Adapters.{position_from-zero}
use Rattle.std.proofs.lemmas.List.Quantifiers.{position-Some}
use Rattle.std.proofs.lemmas.Slice.Eq.{bytes_eq-Decides}
use Rattle.std.specs.List.{flat_map, position, position_from}
use Rattle.std.specs.Str.{bytes_eq}
use Rattle.adl_hierarchy.specs.Spelled.{AreSpelled}
use Rattle.adl_import.specs.Loaded.{IsLoaded}
use Rattle.adl_meaning.specs.declared.flat.Flat.{Flat}
use Rattle.arch_policy.proofs.Lists.{in_has}
use Rattle.assigned_laws.proofs.PolicyTriples.{all_assigned, lines_of}
use Rattle.assigned_laws.proofs.Ranked.{line_name, line_place, lines_apart}
use Rattle.assigned_laws.proofs.TextReasons.{assigned_texts}
use Rattle.assigned_laws.specs.Texts.{IsAssignedText}
use Rattle.assigned_laws.specs.Triples.{name_at, triple}
use Rattle.cap_model.specs.Edges.{edge}
use Rattle.policy_text.specs.EdgeLines.{LabelNames, apart_line, edge_line, name_of, words_line}
use Rattle.flat_laws.proofs.FewEnds.{no_first}
use Rattle.front_end.proofs.LoadedShort.{loaded_short, short_spelled}
use Rattle.front_end.proofs.Sound.{IsFaultless, faultless}
use Rattle.source_commands.specs.Assigned.{AnswersWhether, ListsAssigned, triple_line}

-- ---- of a source that is loaded

list_faultless : (s : Source) → first_list_fault s ≡ None → IsFaultless s
list_faultless s none = faultless s (no_first (first_front_fault s) (first_edge_fault (source_tables s)) none)

loaded_spelled : (contents : Contents) (root : List ℕ) (s : Source) → IsLoaded contents root (Ok s) → AreSpelled s
loaded_spelled contents root s loaded = short_spelled s (loaded_short contents root s loaded)

-- ---- lines

-- the line of an edge between different labels that have lines
line_of : (flat : Flat) (e : Edge) → e.from ≢ e.to → IsIn (e.from, name_at flat e.from) (label_lines flat)
    → IsIn (e.to, name_at flat e.to) (label_lines flat)
    → apart_line (label_lines flat) e ≡ triple_line (triple flat e)
line_of flat e differ i j = by_test (e.from == e.to) refl
  where
    named : (l : ℕ) → IsIn (l, name_at flat l) (label_lines flat) → name_of (label_lines flat) l ≡ name_at flat l
    named l k = ap (λ o. unwrap_or o []) (line_name flat l (name_at flat l) k)

    by_test : (b : Bool) → (e.from == e.to) ≡ b → cond b [] (edge_line [] (label_lines flat) e) ≡ triple_line (triple flat e)
    by_test true same = absurd (differ (eqb-true e.from e.to same))
    by_test false other =
        ap (λ z. words_line [] z (text_of e.authority) (name_of (label_lines flat) e.to)) (named e.from i)
        ∙ ap (λ z. words_line [] (name_at flat e.from) (text_of e.authority) z) (named e.to j)

lines_same : (labels : LabelNames) (flat : Flat) (edges : List Edge)
    → ((e : Edge) → IsIn e edges → apart_line labels e ≡ triple_line (triple flat e))
    → flat_map (apart_line labels) edges ≡ flat_map triple_line (map (triple flat) edges)
lines_same labels flat [] h = refl
lines_same labels flat (e ∷ es) h =
    ap (λ z. z ++ flat_map (apart_line labels) es) (h e (inl refl))
    ∙ ap (λ z. triple_line (triple flat e) ++ z) (lines_same labels flat es (λ d i. h d (inr i)))

pub lists_assigned : (root : List ℕ) (contents : Contents) (listing : Listing) → IsListing root contents listing
    → ListsAssigned root contents (listing_text listing)
lists_assigned root contents listing is =
    let s = is.source in
    let flat = flat_of s in
    let f = list_faultless s is.none in
    let spelled = loaded_spelled contents root s is.loaded in
    let edges = listing.edges in
    let policy = is.listed.edges in
    let sorted = is.listed.sorted in
    record {
      source = s;
      loaded = is.loaded;
      all = map (triple flat) edges;
      assigned = all_assigned s f.names spelled f.types edges policy sorted;
      lines = ap (λ z. flat_map (apart_line z) edges) is.listed.names
          ∙ lines_same (label_lines flat) flat edges (λ e i.
          let w = lines_of s f.names spelled f.types edges policy sorted e i in
          line_of flat e ((policy e).0 (in_has e edges i)).differ w.0 w.1);
    }

-- ---- words that name labels

-- a text's place among texts is its line's number
place_line : (flat : Flat) (text : List ℕ) (l : ℕ) → position (λ t. bytes_eq t text) (label_texts flat) ≡ Some l
    → IsIn {X = ℕ × List ℕ} (l, text) (label_lines flat)
place_line flat text l e =
    let ts = label_texts flat in
    let at = position-Some (λ t. bytes_eq t text) ts l [] e in
    let same : get_or ts l [] ≡ text = (bytes_eq-Decides (get_or ts l []) text).0 at.1 in
    in_gather (λ n t. (n, t) ∷ []) (l, text) ts l text (slice_get-get_or ts l [] at.0 ∙ ap (λ z. Some z) same) (inl refl)

found_from : {X : Type 0} (p : X → Bool) (i : ℕ) (xs : List X) (x : X) → IsIn x xs → p x ≡ true
    → (m : ℕ) × (position_from p i xs ≡ Some m)
found_from p i [] x e t = absurd e
found_from p i (y ∷ ys) x (inl e) t = (i, ap (λ (b : Bool). cond b (Some i) (position_from p (i + 1) ys)) (ap p e ∙ t))
found_from p i (y ∷ ys) x (inr j) t = by_test (p y) (found_from p (i + 1) ys x j t)
  where
    by_test : (b : Bool) → (m : ℕ) × (position_from p (i + 1) ys ≡ Some m)
        → (m : ℕ) × (cond b (Some i) (position_from p (i + 1) ys) ≡ Some m)
    by_test true r = (i, refl)
    by_test false r = r

line_position : (flat : Flat) (text : List ℕ) (l : ℕ) → IsIn {X = ℕ × List ℕ} (l, text) (label_lines flat)
    → position (λ t. bytes_eq t text) (label_texts flat) ≡ Some l
line_position flat text l i =
    let ts = label_texts flat in
    let here = in_place text ts l (line_place flat l text i) in
    let found = found_from (λ t. bytes_eq t text) 0 ts text here ((bytes_eq-Decides text text).1 refl) in
    let at : position (λ t. bytes_eq t text) ts ≡ Some found.0 = position_from-zero (λ t. bytes_eq t text) ts ∙ found.1 in
    at ∙ ap (λ z. Some z) ((lines_apart flat found.0 l text text (place_line flat text found.0 at) i).1 refl)

-- ---- explaining

module _ (from authority to root : List ℕ) (contents : Contents) where
  abbrev IsIt : Source → Type 0
  IsIt s = (a : Authority) × (authority_of authority ≡ Some a) × IsAssignedText s from a to

  answer_assigned : (s : Source) → AreSpelled s → IsFaultless s → (text : List ℕ)
      → IsAnswer (source_tables s) from authority to (Assigned text) → IsIt s
  answer_assigned s spelled f text h =
      let flat = flat_of s in
      let e = h.3.0 in
      let asked = h.3.1 in
      let reasoned = subst (λ z. IsReasoned (source_tables s) (edge e.from z e.to)) asked.authority_is h.3.2.0 in
      let join = assigned_texts s f.names spelled f.types from h.0 to in
      (h.0, h.2, join.1 (e.from, e.to, place_line flat from e.from asked.from_is, place_line flat to e.to asked.to_is, reasoned))

  none_assigned : (s : Source) → AreSpelled s → IsFaultless s → IsAnswer (source_tables s) from authority to NotAssigned → IsIt s
      → ⊥
  none_assigned s spelled f h it =
      let flat = flat_of s in
      let r = (assigned_texts s f.names spelled f.types from it.0 to).0 it.2 in
      let e : Edge = edge r.0 it.0 r.1 in
      let is : IsAsked (label_texts flat) from it.0 to e = record {
        from_is = line_position flat from r.0 r.2;
        authority_is = refl;
        to_is = line_position flat to r.1 r.3;
      } in
      h it.0 it.1 e is r.4

  whether : (s : Source) → AreSpelled s → IsFaultless s → (answer : Answer) → IsAnswer (source_tables s) from authority to answer
      → (is_assigned answer ≡ true) ↔ IsIt s
  whether s spelled f (Assigned text) h = (λ e. answer_assigned s spelled f text h, λ a. refl)
  whether s spelled f NotAssigned h = (λ e. absurd cc, λ a. absurd (none_assigned s spelled f h a))

  pub answers_whether : (answer : Answer) → IsAnswered from authority to root contents answer
      → AnswersWhether root contents from authority to (is_assigned answer)
  answers_whether answer h = record {
    source = h.source;
    loaded = h.loaded;
    whether = whether h.source (loaded_spelled contents root h.source h.loaded) (list_faultless h.source h.none) answer h.answers;
  }
