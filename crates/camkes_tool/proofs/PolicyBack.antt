-- Policies of builds are read back: they keep each limit of their reader, and what every policy keeps.
use Rattle.std.proofs.Common.{rules}
use Rattle.camkes_tool.proofs.Common.{Tables}
use Rattle.camkes_tool.proofs.BackCommon.{All, AllPairs, AreFacts, Build, Contents, Edge, Entry, Flat, Images, IsBuildOf, IsIn, IsMade, IsPolicy, IsPolicyReadBack, List, Ok, Policy, Refused, Result, Some, Source, TextFault, and_parts, ap, arith}
use Rattle.camkes_tool.proofs.BackCommon.{build_facts, dotted, entry, flat_of, from_ones, gather_ones, get_or, get_or_from_slice_get, identifiers, images_beside, in_has, in_place, inl, is_name, is_some, is_word, label_lines, label_name, label_of}
use Rattle.camkes_tool.proofs.BackCommon.{label_texts, labelled, labels_of, length, line_called, lines_apart, list_all, made_connected, made_fit, map, names_tell, not, part_label, parts, place_of, policies_one, policy_back, policy_text, refl}
use Rattle.camkes_tool.proofs.BackCommon.{slice_get, slice_get-get_or, slice_get_within, source_tables, spec_of, subst, sym, system_tables, true, ℕ, ◌<◌, ◌∙◌, ◌≡◌, ◌≢◌, ◌≤◌}
use Rattle.assigned_laws.proofs.LabelPaths.{not_empty}
use Rattle.cap_model.proofs.Kept.{all_at}
use Rattle.capdl_text.specs.TokenFaults.{is_left_out_word}
use Rattle.policy_text.specs.Writable.{IsWritable}
use Rattle.camkes_tool.proofs.CertBack.{policy_few, small_is}
use Rattle.camkes_tool.proofs.LabelNames.{IsShortName, name_part, path_named}
use Rattle.camkes_tool.proofs.Labelled.{IsLabel, edge_labels, few_labels, label_small, named_at}
use Rattle.camkes_tool.proofs.LabelsBack.{line_at}
use Rattle.camkes_tool.proofs.OwnersThere.{object_owner}
use Rattle.camkes_tool.proofs.PathLengths.{paths_short}
use Rattle.camkes_tool.proofs.PolicyLengths.{IsEdgeShort, IsLabelShort, IsObjectShort, policy_short}
use Rattle.camkes_tool.proofs.SpecBack.{made_writable}
use Rattle.flat_laws.proofs.ShortTrees.{all_of}

-- ---- each element

at_each : {X : Type 0} (P : X → Type 0) (xs : List X) → All P xs → (x : X) → IsIn x xs → P x
at_each P xs all x i = search (rules, place_of, get_or_from_slice_get, slice_get_within)

-- ---- labels

record AreObjects (os : List (List ℕ × ℕ)) : Type 0 where
  names : All (λ (o : List ℕ × ℕ). is_name o.0 ≡ true) os
  differ : AllPairs (λ (o p : List ℕ × ℕ). o.0 ≢ p.0) os
  few : length os ≤ 262144

record AreLabels (ls : List (ℕ × List ℕ)) : Type 0 where
  rising : AllPairs (λ (l m : ℕ × List ℕ). l.0 < m.0) ls
  numbers : All (λ (l : ℕ × List ℕ). l.0 < 8192) ls
  texts : AllPairs (λ (l m : ℕ × List ℕ). l.1 ≢ m.1) ls
  few : length ls ≤ 8192

module _ (flat : Flat) (few : length (label_texts flat) ≤ 6144) where
  abbrev lines : List (ℕ × List ℕ)
  lines = label_lines flat

  lines_count : length lines ≡ length (label_texts flat)
  lines_count = gather_ones (λ n x. (n, x)) (label_texts flat)

  line_there : (k : ℕ) (d : ℕ × List ℕ) → k < length lines → slice_get lines k ≡ Some (get_or lines k d)
  line_there k d l = slice_get-get_or lines k d l

  number_is : (k : ℕ) (d : ℕ × List ℕ) → k < length lines → (get_or lines k d).0 ≡ k
  number_is k d l = let x = from_ones (λ n y. (n, y)) (label_texts flat) k (get_or lines k d) (line_there k d l) in
      ap (λ (z : ℕ × List ℕ). z.0) (sym x.2)

  rising_is : AllPairs (λ (l m : ℕ × List ℕ). l.0 < m.0) lines
  rising_is i j d l m = search (rules, number_is)

  numbers_are : All (λ (l : ℕ × List ℕ). l.0 < 8192) lines
  numbers_are k d l = search (rules, number_is, lines_count)

  texts_are : AllPairs (λ (l m : ℕ × List ℕ). l.1 ≢ m.1) lines
  texts_are i j d l m same =
      let x = get_or lines i d in
      let y = get_or lines j d in
      let a = number_is i d (omega (arith, l, m)) in
      let b = number_is j d m in
      let here = in_place x lines i (line_there i d (omega (arith, l, m))) in
      let there = in_place y lines j (line_there j d m) in
      let one = (lines_apart flat x.0 y.0 x.1 y.1 here there).1 same in
      absurd (omega (arith, a, b, one, l))

  labels_are : AreLabels (label_lines flat)
  labels_are = search (rules, rising_is, numbers_are, texts_are, lines_count)

-- ---- objects

-- things that have entries and labels
module _ {X : Type 0} (entry : X → Entry) (label : X → ℕ) (xs : List X)
    (differ : (m n : ℕ) (x y : X) → slice_get xs m ≡ Some x → slice_get xs n ≡ Some y → (entry x).name ≡ (entry y).name → m ≡ n)
    (words : list_all (λ (e : Entry). is_word e.name) (map entry xs) ≡ true) (short : length (map entry xs) ≤ 262144) where
  abbrev objects : List (List ℕ × ℕ)
  objects = labelled (map entry xs) (map label xs)

  abbrev of_place : ℕ → Entry → List ℕ × ℕ
  of_place n e = (e.name, label_of (map label xs) n)

  object_there : (k : ℕ) (d : List ℕ × ℕ) → k < length objects → slice_get objects k ≡ Some (get_or objects k d)
  object_there k d l = slice_get-get_or objects k d l

  few_objects : length objects ≤ 262144
  few_objects = let a = gather_ones of_place (map entry xs) in let b = short in omega (arith, a, b)

  names_are : All (λ (o : List ℕ × ℕ). is_name o.0 ≡ true) objects
  names_are k d l =
      let x = from_ones of_place (map entry xs) k (get_or objects k d) (object_there k d l) in
      let w = all_at (λ (e : Entry). is_word e.name) (map entry xs) k x.0 words x.1 in
      ap (λ (z : List ℕ × ℕ). is_name z.0) (sym x.2) ∙ (and_parts (is_name x.0.name) (not (is_left_out_word x.0.name)) w).0

  names_apart : AllPairs (λ (o p : List ℕ × ℕ). o.0 ≢ p.0) objects
  names_apart i j d l m same = search (rules, line_at, entry, object_there)

  objects_are : AreObjects (labelled (map entry xs) (map label xs))
  objects_are = record { names = names_are; differ = names_apart; few = few_objects }

-- ---- answers

abbrev same_answer : Policy → Result Policy (Refused TextFault)
same_answer p = Ok p

one_inside : (p q : Policy) → same_answer p ≡ same_answer q → p ≡ q
one_inside p q h = cc

-- ---- of a source

module _ {contents : Contents} (s : Source) (images : Images) (facts : AreFacts contents s images) where
  abbrev t : Tables
  t = system_tables s images

  objects_of : AreObjects (labelled (spec_of t).entries (labels_of t).by_object)
  objects_of =
      let fit = made_fit s images facts in
      let w = made_writable s images facts in
      objects_are (entry t) (part_label t) (parts t) (λ m n p q e f same. names_tell t fit.connections fit.objects m n p q e f
      same) w.names w.few_objects

  labels_of_flat : AreLabels (label_lines (flat_of s))
  labels_of_flat = labels_are (flat_of s) (few_labels (flat_of s) (small_is s images facts))

  -- the text of a label is a name that isn't long
  line_named : (l : ℕ × List ℕ) → IsIn l (label_lines (flat_of s)) → IsShortName l.1
  line_named l i =
      let f = facts.faultless in
      let c = line_called (source_tables s) refl l.0 l.1 i in
      let w = c.1 in
      let named = path_named c.0
      (not_empty s f.names w.labelled c.0 w.there)
      (paths_short s f.names (dotted s facts.short) f.types f.flat w.labelled c.0 w.there)
      (identifiers s facts.spelled f.names w.labelled c.0 w.there) in
      subst IsShortName c.2 named

  -- an object has the label of an owner
  object_is : (n : ℕ) (e : Entry) → slice_get (spec_of t).entries n ≡ Some e
      → IsLabel (source_tables s) (label_of (labels_of t).by_object n)
  object_is n e at = let w = object_owner t (made_connected s images facts) n e at in
      record { owner = w.owner; there = w.there; is = w.is }

  small : (l : ℕ) → IsLabel (source_tables s) l → l < 8192
  small l w = label_small (source_tables s) refl (small_is s images facts) l w

  -- ---- of a build

  module _ (b : Build) (made : IsMade s images b.spec b.policy b.cert b.map) where
    label_there : (l : ℕ) → IsLabel (source_tables s) l → is_some (label_name b.policy.labels l) ≡ true
    label_there l w = ap (λ z. is_some (label_name z l)) made.labels ∙ named_at (source_tables s) refl l w

    leads : (e : Edge) → IsIn e b.policy.edges → IsLabel (source_tables s) e.from × IsLabel (source_tables s) e.to
    leads e i = edge_labels s facts.faultless.names facts.spelled e (inl ((made.edges e).0 (in_has e b.policy.edges i)))

    object_labelled : (o : List ℕ × ℕ) → IsIn o b.policy.objects → IsLabel (source_tables s) o.1
    object_labelled o i =
        let entries = (spec_of t).entries in
        let labels = (labels_of t).by_object in
        let n = place_of o (labelled entries labels) (subst (λ z. IsIn o z) made.objects i) in
        let e = from_ones (λ n (e : Entry). (e.name, label_of labels n)) entries n.0 o n.1 in
        subst (λ z. IsLabel (source_tables s) z) (ap (λ (z : List ℕ × ℕ). z.1) e.2) (object_is n.0 e.0 e.1)

    line_here : (l : ℕ × List ℕ) → IsIn l b.policy.labels → IsShortName l.1
    line_here l i = line_named l (subst (λ z. IsIn l z) made.labels i)

    few_edges : length b.policy.edges ≤ 262144
    few_edges = let l = policy_few s images facts b made in omega (arith, l)

    objects_here : AreObjects b.policy.objects
    objects_here = subst AreObjects (sym made.objects) objects_of

    labels_here : AreLabels b.policy.labels
    labels_here = subst AreLabels (sym made.labels) labels_of_flat

    policy_kept : IsPolicy b.policy
    policy_kept =
        let o = objects_here in
        let l = labels_here in
        record {
          numbers = λ i j d first second same. let less = l.rising i j d first second in absurd (omega (arith, less, same));
          names = l.texts;
          named = all_of _ b.policy.labels (λ x i. (line_here x i).name);
          objects = o.differ;
          labelled = all_of _ b.policy.objects (λ x i. label_there x.1 (object_labelled x i));
          from = all_of _ b.policy.edges (λ x i. label_there x.from (leads x i).0);
          to = all_of _ b.policy.edges (λ x i. label_there x.to (leads x i).1);
        }

    short_label : (l : ℕ × List ℕ) → IsIn l b.policy.labels → IsLabelShort l
    short_label l i = (at_each (λ (x : ℕ × List ℕ). x.0 < 8192) b.policy.labels labels_here.numbers l i, (line_here l i).short)

    short_object : (o : List ℕ × ℕ) → IsIn o b.policy.objects → IsObjectShort o
    short_object o i = (
      (name_part o.0 (at_each (λ (x : List ℕ × ℕ). is_name x.0 ≡ true) b.policy.objects objects_here.names o i)).few,
      small o.1 (object_labelled o i),
    )

    short_edge : (e : Edge) → IsIn e b.policy.edges → IsEdgeShort e
    short_edge e i = let w = leads e i in (small e.from w.0, small e.to w.1)

    policy_writable : IsWritable b.policy
    policy_writable = search (rules, objects_here, labels_here, few_edges, policy_short, short_label, short_object, short_edge)

    pub made_back : IsPolicyReadBack b
    made_back = search (rules, policy_back, policy_kept, policy_writable, one_inside, policies_one, policy_text)

pub policy_read : (root : List ℕ) (contents : Contents) (b : Build) → IsBuildOf root contents b → IsPolicyReadBack b
policy_read root contents b is = made_back b.meaning.source (images_beside contents b.meaning.source)
    (build_facts root contents b is) b is.made
