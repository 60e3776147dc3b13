-- Edges in order differ, and are no more than a list that has each of them.
use Rattle.cap_model.proofs.Common.{Before, Bool, Edge, IsDistinct, IsDistinct-from_apart, IsEquivalence, IsSorted, List, [], ap, arith, false, get_or, has, length, list_any, refl, rules, same_edge, slice_get-get_or, sym, true, ◌∙◌, ◌∷◌, ◌≡◌, ◌≤◌}
use Rattle.std.specs.Prelude.{◌||◌}
use Rattle.std.specs.Set.{is_member}
use Rattle.std.proofs.lemmas.Map.Made.{length-le_from_is_member}
use Rattle.cap_model.proofs.EdgeOrder.{not_before_self, same_edge-sym, same_edge_self, same_edge_true}

pub same_laws : IsEquivalence same_edge
same_laws = record {
  refl = same_edge_self;
  symm = same_edge-sym;
  congr = λ x y z h. ap (λ v. same_edge v z) (same_edge_true x y h);
}

pub member_has : (es : List Edge) (e : Edge) → is_member same_edge es e ≡ has es e
member_has [] e = refl
member_has (d ∷ es) e = ap (λ b. b || list_any (same_edge e) es) (same_edge-sym e d) ∙ ap (λ b. same_edge d e || b)
    (member_has es e)

differs : (d e : Edge) → Before d e → same_edge d e ≡ false
differs d e b = search (rules, not_before_self, same_edge_true)

-- edges that stand in order differ
pub distinct : (es : List Edge) → IsSorted es → IsDistinct same_edge es
distinct es s =
    IsDistinct-from_apart same_edge es (λ i j d l m.
    differs (get_or es i d) (get_or es j d) (s.by_place i j (get_or es i d) (get_or es j d) l
    (slice_get-get_or es i d (omega (arith, l, m))) (slice_get-get_or es j d m)))

-- edges that stand in order and in a list are no more than the list
pub no_more : (xs ys : List Edge) → IsSorted xs → ((e : Edge) → has xs e ≡ true → has ys e ≡ true) → length xs ≤ length ys
no_more xs ys s h = length-le_from_is_member same_laws xs ys (distinct xs s) (λ e i. member_has ys e
    ∙ h e (sym (member_has xs e) ∙ i))
