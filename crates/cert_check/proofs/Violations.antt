-- The order of violations, and which of two is kept.
use Rattle.cert_check.proofs.Common.{AtMost, Edge, FindsLeast, LesserOf, None, NotAfter, Option, Some, Violation, at_most_both, at_most_self, at_most_trans, inl, inr, refl, rules, subst, sym, ◌∙◌, ◌≡◌, ◌⊎◌}

abbrev pub first_of : Violation → Edge
first_of v = v.first

pub at_first : (d e : Edge) → d ≡ e → AtMost d e
at_first d e same = subst (λ (x : Edge). AtMost d x) same (at_most_self d)

pub not_after_trans : (u v w : Violation) → NotAfter u v → NotAfter v w → NotAfter u w
not_after_trans u v w p q = record {
  by_first = at_most_trans u.first v.first w.first p.by_first q.by_first;
  by_lack = λ f. lack (first f) (sym (first f) ∙ f);
  by_second = λ f l.
      let a : u.first ≡ v.first = first f in
      let b : v.first ≡ w.first = sym a ∙ f in
      let m : u.lack ≡ v.lack = at_most_both u.lack v.lack (p.by_lack a) (subst (λ (x : Edge). AtMost v.lack x) (sym l)
      (q.by_lack b)) in
      at_most_trans u.second v.second w.second (p.by_second a m) (q.by_second b (sym m ∙ l));
} where
  first : u.first ≡ w.first → u.first ≡ v.first
  first f = at_most_both u.first v.first p.by_first (subst (λ (x : Edge). AtMost v.first x) (sym f) q.by_first)

  lack : u.first ≡ v.first → v.first ≡ w.first → AtMost u.lack w.lack
  lack a b = at_most_trans u.lack v.lack w.lack (p.by_lack a) (q.by_lack b)

-- this violation is kept or one that isn't after it
pub record Covered (best : Option Violation) (v : Violation) : Type 0 where
  pub kept : Violation
  pub is : best ≡ Some kept
  pub not_after : NotAfter kept v

pub covered_later : (best : Option Violation) (v w : Violation) → Covered best v → NotAfter v w → Covered best w
covered_later best v w c n = record { kept = c.kept; is = c.is; not_after = not_after_trans c.kept v w c.not_after n }

pub found_covers : (P : Violation → Type 0) (found : Option Violation) (v : Violation) → FindsLeast P found → P v
    → Covered found v
found_covers P None v f p = absurd (f v p)
found_covers P (Some b) v f p = record { kept = b; is = refl; not_after = f.1 v p }

pub kept_covers : (best found kept : Option Violation) (v : Violation) → LesserOf best found kept
    → Covered best v ⊎ Covered found v → Covered kept v
kept_covers None found kept v is (inl c) = absurd (let w = c.is in cc)
kept_covers None found kept v is (inr c) = rw is c
kept_covers (Some old) None kept v is (inl c) = rw is c
kept_covers (Some old) None kept v is (inr c) = absurd (let w = c.is in cc)
kept_covers (Some old) (Some new) kept v (inl is) (inl c) =
    rw is.1 (record {
      kept = new;
      is = refl;
      not_after = not_after_trans new old v is.0 (let same : old ≡ c.kept = (let w = c.is in cc) in rw same c.not_after);
    })
kept_covers (Some old) (Some new) kept v (inl is) (inr c) = rw is.1 c
kept_covers (Some old) (Some new) kept v (inr is) (inl c) = rw is.1 c
kept_covers (Some old) (Some new) kept v (inr is) (inr c) =
    rw is.1 (record {
      kept = old;
      is = refl;
      not_after = not_after_trans old new v is.0 (let same : new ≡ c.kept = (let w = c.is in cc) in rw same c.not_after);
    })

pub kept_is : (best found kept : Option Violation) (v : Violation) → LesserOf best found kept → kept ≡ Some v
    → (best ≡ Some v) ⊎ (found ≡ Some v)
kept_is None found kept v is same = inr (sym is ∙ same)
kept_is (Some old) None kept v is same = inl (sym is ∙ same)
kept_is (Some old) (Some new) kept v (inl is) same = inr (sym is.1 ∙ same)
kept_is (Some old) (Some new) kept v (inr is) same = inl (sym is.1 ∙ same)

pub found_is : (P : Violation → Type 0) (found : Option Violation) (v : Violation) → FindsLeast P found → found ≡ Some v → P v
found_is P None v f same = absurd cc
found_is P (Some b) v f same = let s : b ≡ v = cc in subst P s f.0

-- what is kept is least, where it has the property and each with the property is covered
pub finds_least : (P : Violation → Type 0) (best : Option Violation) → ((v : Violation) → best ≡ Some v → P v)
    → ((v : Violation) → P v → Covered best v) → FindsLeast P best
finds_least P None sound covers = λ v p. (let c = covers v p in let w = c.is in absurd cc)
finds_least P (Some b) sound covers = search (rules)
