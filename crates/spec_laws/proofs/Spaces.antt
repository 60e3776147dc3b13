-- What stands at the addresses of a space is what is mapped there
use Rattle.spec_laws.proofs.Common.{ArePagesOf, Bool, CanMap, Cap, Domain, FrameOf, IsAt, List, MappedPage, MapsPage, Rises, Some, Tables, [], ap, arith, get_map, in_place, map, mapped_pages, memory_rights, number_shown, object_at, place, place_of}
use Rattle.spec_laws.proofs.Common.{refl, root_of, rules, slice_get, spec_of, subst, suc, sym, system, zero, ℕ, ◌*◌, ◌+◌, ◌/◌, ◌<◌, ◌∙◌, ◌∷◌, ◌≡◌}
use Rattle.spec_laws.proofs.Finding.{Found, finds, found, page_cap, rise, within}
use Rattle.spec_laws.proofs.Framing.{frame_of_page}
use Rattle.spec_laws.proofs.Members.{whole}
use Rattle.spec_laws.proofs.Paging.{is_mapped, mapped_is}
use Rattle.spec_laws.proofs.Rooted.{frames_from}
use Rattle.spec_laws.proofs.SlotLists.{some}

-- ---- strictly rising numbers tell their places

above_all : (a : ℕ) (xs : List ℕ) (n x : ℕ) → Rises (a ∷ xs) → slice_get xs n ≡ Some x → a < x
above_all a [] n x r e = cc
above_all a (y ∷ xs) zero x r e = let same : y ≡ x = cc in let l = r.0 in omega (arith, same, l)
above_all a (y ∷ xs) (suc n) x r e = let k = r.0 in omega (arith, k, above_all y xs n x r.1 e)

pub rises_tell : (xs : List ℕ) (n m x : ℕ) → Rises xs → slice_get xs n ≡ Some x → slice_get xs m ≡ Some x → n ≡ m
rises_tell [] n m x r e f = cc
rises_tell (a ∷ xs) n m x r e f = grind (arith, above_all a xs, rises_tell xs)

module _ (t : Tables) (can : CanMap t) (d : ℕ) (x : Domain) (h : slice_get t.flat.domains d ≡ Some x) where
  -- the page that is found is the one that begins the address's page
  pub begins_page : (v : ℕ) (cap : Cap) (f : Found t can d x h v cap) → f.shown.at ≡ 4096 * (v / 4096)
  begins_page v cap f =
      omega (arith, (rise t can d x h).aligned f.shown (in_place f.shown (mapped_pages (system t) d) f.number f.here), f.same)

  one_is : (v : ℕ) (cap more : Cap) → Found t can d x h v cap → Found t can d x h v more → cap ≡ more
  one_is v cap more f g =
      let pages = mapped_pages (system t) d in
      let at : ℕ → ℕ = λ n. n in
      let a = get_map (λ (p : MappedPage). p.at) pages f.number f.shown f.here in
      let b = get_map (λ (p : MappedPage). p.at) pages g.number g.shown g.here in
      let number : f.number ≡ g.number = rises_tell (map (λ (p : MappedPage). p.at) pages) f.number g.number f.shown.at
      (rise t can d x h).rise a (b ∙ ap (λ z. Some z) (sym (begins_page v cap f ∙ sym (begins_page v more g)))) in
      let there : slice_get pages g.number ≡ Some f.shown = ap (λ n. slice_get pages n) (sym number) ∙ f.here in
      let shown : f.shown ≡ g.shown = some (slice_get pages g.number) f.shown g.shown there g.here in
      f.is ∙ ap (λ n. page_cap t can d x h n f.shown) number ∙ ap (λ p. page_cap t can d x h g.number p) shown ∙ sym g.is

  -- the capability at an address of a page is that of the page
  pub cap_is : (v n : ℕ) (p : MappedPage) (cap : Cap) → slice_get (mapped_pages (system t) d) n ≡ Some p → p.at / 4096 ≡ v / 4096
      → IsAt (spec_of t) (root_of t d) v cap → cap ≡ page_cap t can d x h n p
  cap_is v n p cap e same i =
      one_is v cap (page_cap t can d x h n p) (found t can d x h v cap (within t can d x h v n p e same) i) (search (rules))

  pub is_at : (v n : ℕ) (p : MappedPage) → slice_get (mapped_pages (system t) d) n ≡ Some p → p.at / 4096 ≡ v / 4096
      → IsAt (spec_of t) (root_of t d) v (page_cap t can d x h n p)
  is_at v n p e same = finds t can d x h v (page_cap t can d x h n p) (within t can d x h v n p e same)
      (record { number = n; shown = p; here = e; same = same; is = refl })

  pub pages_are : ArePagesOf t (spec_of t) d (root_of t d)
  pages_are = record {
    only = λ v cap l i. (
        let f = found t can d x h v cap l i in
        let P : ℕ → Type 0 = λ z. MapsPage t d z f.shown.read f.shown.write in (
          f.shown.read,
          f.shown.write,
          subst P (begins_page v cap f) (mapped_is t can.settled d f.shown (in_place f.shown (mapped_pages (system t) d)
              f.number f.here)),
          ap (λ (z : Cap). z.rights) f.is,
          ap (λ (z : Cap). z.badge) f.is,
        ));
    every = λ v read write m. (
        let p = is_mapped t can.settled d (4096 * (v / 4096)) read write m in
        let n = place_of p.page (mapped_pages (system t) d) p.there in
        let same : p.page.at / 4096 ≡ v / 4096 = ap (λ z. z / 4096) p.at ∙ whole v in
        let l = within t can d x h v n.0 p.page n.1 same in
        let cap = page_cap t can d x h n.0 p.page in (
          l,
          (
            cap,
            finds t can d x h v cap l (record { number = n.0; shown = p.page; here = n.1; same = same; is = refl }),
            rights p.may_read p.may_write,
          ),
        ));
    one = λ v cap more l i j. one_is v cap more (found t can d x h v cap l i) (found t can d x h v more l j);
    frames = λ v cap l i. (
        let f = found t can d x h v cap l i in let o = frame_of_page t can d x h f.number f.shown f.here in
        let at : place t (FrameOf (number_shown (system t) d f.number f.shown.shown)) ≡ frames_from t + number_shown (system t) d
        f.number f.shown.shown = omega arith in (
          o.0.paddr,
          o.0.fill,
          ap (λ (z : Cap). object_at (spec_of t) z.object) f.is ∙ ap (λ z. object_at (spec_of t) z)
              (sym at) ∙ o.1,
        ));
  } where
    rights : {a b c e : Bool} → a ≡ b → c ≡ e → memory_rights a c ≡ memory_rights b e
    rights {a} {b} {c} {e} p q = ap (λ z. memory_rights z c) p ∙ ap (λ z. memory_rights b z) q
