-- Who stands for whom.
use Rattle.std.proofs.Common.{rules}
use Rattle.cap_audit.proofs.Common.{AreAlike, AreFirsts, AreHeadRoots, AreHeads, AreKinds, AreLeft, AreMembers, AreRootMarks, AreRoots, AreRows, AreStandIns, Bool, Found, HasRoot, IsFound, IsKept, IsLike, IsQueued, List, None, Option, Some, Spec}
use Rattle.cap_audit.proofs.Common.{StandsFor, [], ap, arith, bare, cases_eq, cases_lt, eqb-false, eqb-true, false, get_or, get_or-append_seam, get_or-set_other, get_or-set_same, get_or_append_left, get_or_past, if◌then◌else◌, inl, inr, is_known}
use Rattle.cap_audit.proofs.Common.{label_of, length, length-append, length-set, map, refl, replicate, root_mark, row_at, set, stand_in, subst, sym, true, with_more, ℕ, ◌++◌, ◌+◌, ◌<◌, ◌==◌, ◌∙◌, ◌∷◌, ◌≡◌, ◌≤◌}
use Rattle.std.proofs.Math.ListN.{get_or-map}
use Rattle.cap_audit.proofs.Beginning.{root_inside}
use Rattle.cap_audit.proofs.InRows.{more_cases, more_kept, more_there, none_in_blank}
use Rattle.std.proofs.lemmas.List.{length-replicate}

-- the first of each kind, one object after the other

pub firsts_none : (classes marks firsts : List ℕ) → firsts ≡ [] → AreFirsts classes marks firsts 0
firsts_none classes marks firsts is = search (rules)

pub rows_none : (classes firsts : List ℕ) (rows : List (List ℕ)) (n : ℕ) → rows ≡ replicate n [] → AreRows classes firsts rows
rows_none classes firsts rows n is = rw is (record {
  inside = λ g r h. absurd (none_in_blank n g r h);
  of_class = λ g r h. absurd (none_in_blank n g r h);
  itself = λ g r h. absurd (none_in_blank n g r h);
})

module _ (classes marks firsts : List ℕ) (c first : ℕ) (are : AreFirsts classes marks firsts c) where
  abbrev longer : List ℕ
  longer = firsts ++ first ∷ []

  stand_old : (k : ℕ) → k < c → stand_in longer k ≡ stand_in firsts k
  stand_old k less = get_or_append_left firsts (first ∷ []) k k (let e = are.as_many in omega arith)

  stand_new : stand_in longer c ≡ first
  stand_new = subst (λ (n : ℕ). get_or longer n n ≡ first) are.as_many (get_or-append_seam firsts first [] (length firsts))

  new_length : length longer ≡ c + 1
  new_length = let e = are.as_many in omega (arith, length-append firsts (first ∷ []))

  stays : (r k : ℕ) → StandsFor classes marks firsts r k → StandsFor classes marks longer r k
  stays r k s = search (rules, new_length, stand_old)

  module _ (rows : List (List ℕ)) (of : AreRows classes firsts rows) where
    rows_stay : AreRows classes longer rows
    rows_stay = record {
      inside = λ g r h. (let l = of.inside g r h in let e = are.as_many in let n = new_length in omega arith);
      of_class = of.of_class;
      itself = λ g r h. stand_old r (let l = of.inside g r h in let e = are.as_many in omega arith) ∙ of.itself g r h;
    }

    -- with the new one in its row
    module _ (same : first ≡ c) where
      more_itself : stand_in longer c ≡ c
      more_itself = stand_new ∙ same

      rows_longer : AreRows classes longer (with_more rows (get_or classes c 0) c)
      rows_longer = record {
        inside = λ g r h. elim (more_cases rows (get_or classes c 0) c g r h) [
          | inl old ↦ rows_stay.inside g r old
          | inr now ↦ (let e : c ≡ r = now.1 in let n = new_length in omega arith)
        ];
        of_class = λ g r h. elim (more_cases rows (get_or classes c 0) c g r h) [
          | inl old ↦ rows_stay.of_class g r old
          | inr now ↦ ap (λ (n : ℕ). get_or classes n 0) (sym now.1) ∙ sym now.0
        ];
        itself = λ g r h. elim (more_cases rows (get_or classes c 0) c g r h) [
          | inl old ↦ rows_stay.itself g r old
          | inr now ↦ subst (λ (n : ℕ). stand_in longer n ≡ n) now.1 more_itself
        ];
      }

    rows_by : (b : Bool) → (first == c) ≡ b → AreRows classes longer (if b then with_more rows (get_or classes c 0) c else rows)
    rows_by false fails = rows_stay
    rows_by true holds = rows_longer (eqb-true first c holds)

    pub rows_more : (new : List (List ℕ)) → new ≡ (if first == c then with_more rows (get_or classes c 0) c else rows)
        → AreRows classes longer new
    rows_more new is = subst (λ (xs : List (List ℕ)). AreRows classes longer xs) (sym is) (rows_by (first == c) refl)

    module _ (like : IsLike (row_at rows (get_or classes c 0)) marks c first) where
      first_stands : StandsFor classes marks longer first c
      first_stands = elim like [
        | inl same ↦ search (rules, new_length, stand_new)
        | inr x ↦ record {
          inside = rows_stay.inside (get_or classes c 0) first x.0;
          of_class = of.of_class (get_or classes c 0) first x.0;
          marked = x.1;
          itself = rows_stay.itself (get_or classes c 0) first x.0;
        }
      ]

      pub firsts_more : AreFirsts classes marks longer (c + 1)
      firsts_more = search (rules, new_length, cases_lt, stand_old, stays, stand_new, first_stands)

-- those of one class hold the same

module _ (spec : Spec) (f : Found) (found : IsFound spec f) (classes marks firsts : List ℕ) (alike : AreAlike spec f classes)
    (are : AreFirsts classes marks firsts (length classes)) where
  queued_known : (c v : ℕ) → IsQueued (bare f) c v → is_known f c v ≡ true
  queued_known c v q = search (rules)

  known_queued : (c v : ℕ) → is_known f c v ≡ true → IsQueued (bare f) c v
  known_queued c v known = let k = found.known c v known in record { place = k.0; pair = k.1; there = k.2; at = k.3; of = k.4 }

  past_itself : (c : ℕ) → length classes ≤ c → stand_in firsts c ≡ c
  past_itself c ge = get_or_past firsts c c (let e = are.as_many in omega arith)

  pub stand_ins : AreStandIns (bare f) firsts
  stand_ins = search (rules, cases_lt, past_itself, known_queued, queued_known)

pub kinds_of : (spec : Spec) (f : Found) (labels classes faces heads : List ℕ) → IsKept spec → IsFound spec f
    → AreAlike spec f classes
    → AreFirsts classes labels faces (length classes) → AreHeads spec classes heads → AreKinds spec labels (bare f) faces heads
kinds_of spec f labels classes faces heads kept found alike are_faces are_heads = record {
  are_faces = stand_ins spec f found classes labels faces alike are_faces;
  are_heads = stand_ins spec f found classes are_heads.marks heads alike are_heads.firsts;
  as_many = are_heads.firsts.as_many ∙ alike.as_many;
  labelled = λ c. elim (cases_lt c (length classes)) [
    | inl less ↦ (are_faces.each c less).marked
    | inr ge ↦ ap (λ (n : ℕ). label_of labels n) (past_itself spec f found classes labels faces alike are_faces c ge)
  ];
  rooted = search (rules, root_inside);
}

-- marks of roots

pub mark_of_roots : (spec : Spec) (roots : List (Option ℕ)) (marks : List ℕ) → AreRoots spec roots → marks ≡ map root_mark roots
    → AreRootMarks spec marks
mark_of_roots spec roots marks are is = record {
  one = λ c t root. at c ∙ one_by (get_or roots c None) (are.all_ones c t root);
  root = λ c one. root_by c (get_or roots c None) refl (sym (at c) ∙ one);
} where
  at : (c : ℕ) → get_or marks c 0 ≡ root_mark (get_or roots c None)
  at c = ap (λ (xs : List ℕ). get_or xs c 0) is ∙ get_or-map root_mark roots c None

  one_by : (o : Option ℕ) → (o ≡ None → ⊥) → root_mark o ≡ 1
  one_by None none = absurd (none refl)
  one_by (Some t) none = refl

  root_by : (c : ℕ) (o : Option ℕ) → get_or roots c None ≡ o → root_mark o ≡ 1 → (t : ℕ) × HasRoot spec t c
  root_by c None here h = absurd cc
  root_by c (Some t) here h = (t, are.true_ones c t here)

-- objects by who stands for them

pub members_none : (heads : List ℕ) (members : List (List ℕ)) → members ≡ replicate (length heads) [] → AreMembers heads members 0
members_none heads members is = rw is (record {
  as_many = length-replicate (length heads) [];
  stands = λ h c there. absurd (none_in_blank (length heads) h c there);
  every = λ c less inside. absurd (omega arith);
})

pub members_more : (heads : List ℕ) (members new : List (List ℕ)) (n head : ℕ) → AreMembers heads members n
    → head ≡ stand_in heads n → new ≡ with_more members head n → AreMembers heads new (n + 1)
members_more heads members new n head before head_is made = rw (made, head_is) (record {
  as_many = length-set members (stand_in heads n) (row_at members (stand_in heads n) ++ n ∷ []) ∙ before.as_many;
  stands = λ h c there. elim (more_cases members (stand_in heads n) n h c there) [
    | inl old ↦ before.stands h c old
    | inr now ↦ rw (← now.1) (sym now.0)
  ];
  every = λ c less inside. elim (cases_lt c n) [
    | inl below ↦ more_kept members (stand_in heads n) n (stand_in heads c) c (before.every c below inside)
    | inr ge ↦ (
        let at : c ≡ n = omega arith in
        let here : stand_in heads n < length members = search (rules) in
        rw at (more_there members (stand_in heads n) n here))
  ];
})

-- roots that stand for themselves

pub left_none : (heads : List ℕ) (all : List (Option ℕ)) → AreLeft heads all all
left_none heads all = record { same = λ c itself. refl; some = λ c t h. h }

module _ (heads : List ℕ) (all roots : List (Option ℕ)) (n : ℕ) (left : AreLeft heads all roots) where
  left_out : (stand_in heads n ≡ n → ⊥) → AreLeft heads all (set roots n None)
  left_out other = search (rules, get_or-set_other, cases_eq, set, cases_lt, get_or-set_same, get_or_past, length-set)

  left_by : (b : Bool) → (stand_in heads n == n) ≡ b → AreLeft heads all (if b then roots else set roots n None)
  left_by true holds = left
  left_by false fails = left_out (eqb-false (stand_in heads n) n fails)

  pub left_more : (new : List (Option ℕ)) → new ≡ (if stand_in heads n == n then roots else set roots n None)
      → AreLeft heads all new
  left_more new is = subst (λ (xs : List (Option ℕ)). AreLeft heads all xs) (sym is) (left_by (stand_in heads n == n) refl)

pub head_roots_of : (spec : Spec) (heads : List ℕ) (all roots : List (Option ℕ)) → AreRoots spec all → AreLeft heads all roots
    → AreHeadRoots spec heads roots
head_roots_of spec heads all roots are left = search (rules)
