-- The spec of laid-out tables keeps what every spec keeps.
use Rattle.spec_laws.proofs.Common.{Bool, CNodeOf, Domain, EndpointOf, Entry, FrameOf, IrqOf, IsFit, IsIn, IsKept, IsThere, List, LockOf, None, NotificationOf, Option, Page, Part, RW, Some, TableOf, Tables, ThreadOf, ThreadPlace, What, [], and_from}
use Rattle.spec_laws.proofs.Common.{ap, arith, buffer_cap, cap, entry, find, fits_as, frame_object, if_any, in_place, inr, is_at, is_space_root, keeps, keeps_tcb, le-leb, leb, length-map, list_all, list_all-map, object}
use Rattle.spec_laws.proofs.Common.{option_map_or, pages_at, parts, place, priority, refl, rules, slice_get, spec_of, tcb, there, threads_at, true, ℕ, ◌&&◌, ◌==◌, ◌∙◌, ◌∷◌, ◌≡◌}
use Rattle.std.specs.Option.{option_map}
use Rattle.cap_model.specs.declared.kind.Kind.TheVariants as kinds
use Rattle.cap_model.specs.declared.object.Object.TheVariants as objects
use Rattle.spec_laws.proofs.CapsFit.{all_pass, cnode_kept, is_at_of}
use Rattle.spec_laws.proofs.Lines.{lines_kept}
use Rattle.spec_laws.proofs.TablesKept.{frame_fits, root_kept, tables_kept}
use Rattle.spec_laws.proofs.Telling.{names_kept}

-- what is found stands in the list
found_in : {X : Type 0} (test : X → Bool) (xs : List X) (x : X) → find test xs ≡ Some x → IsIn x xs
found_in test [] x e = cc
found_in test (y ∷ xs) x e = grind (arith, found_in test xs x)

module _ (t : Tables) (fit : IsFit t) where
  abbrev Kept : What → Type 0
  Kept w = keeps (spec_of t) (object t w) ≡ true

  module _ (d : ℕ) (x : Domain) (here : slice_get t.flat.domains d ≡ Some x) where
    -- the buffer's capability, where a page is found
    buffer_kept : (o : Option Page) → ((p : Page) → o ≡ Some p → IsIn p (pages_at t d))
        → if_any (fits_as (spec_of t) kinds.Frame) (option_map (λ f. cap (place t (FrameOf f)) RW 0)
        (option_map (λ (p : Page). p.frame) o)) ≡ true
    buffer_kept None among = refl
    buffer_kept (Some p) among = frame_fits t fit d x here p.frame RW ((fit.domains d x here).pages p (among p refl)).frame refl

    tcb_kept : (y : ThreadPlace) → IsIn y (threads_at t d) → keeps_tcb (spec_of t) (tcb t d y) ≡ true
    tcb_kept y i =
        let m = (fit.domains d x here).mapped y i in
        let test : Page → Bool = λ p. p.vaddr == y.buffer in
        let prio = and_from (leb (priority t y.leaf) 255) (is_at (spec_of t) kinds.CNode (place t (CNodeOf d)))
        (le-leb (priority t y.leaf) 255 (fit.priorities y.leaf)) (is_at_of t (CNodeOf d) kinds.CNode kinds.CNode (x, here)
        refl refl) in
        let space = and_from (is_space_root (spec_of t) (place t (TableOf d 0))) (if_any (fits_as (spec_of t) kinds.Frame)
        (buffer_cap t d y.buffer)) (root_kept t fit d x here m.0 m.1)
        (buffer_kept (find test (pages_at t d)) (λ p e. found_in test (pages_at t d) p e)) in
        search (rules, and_from)

    thread_kept : (i : ℕ) (y : ThreadPlace) → slice_get (threads_at t d) i ≡ Some y → Kept (ThreadOf d i)
    thread_kept i y s = search (rules, tcb_kept, in_place)

  pub kept : (w : What) → IsThere t w → keeps (spec_of t) (object t w) ≡ true
  kept (CNodeOf d) h = cnode_kept t fit d h.0 h.1
  kept (ThreadOf d i) h = thread_kept d h.0.0 h.0.1 i h.1.0 h.1.1
  kept (EndpointOf k) h = refl
  kept (NotificationOf k) h = refl
  kept (LockOf d n) h = refl
  kept (IrqOf k) h = is_at_of t (NotificationOf k) kinds.Notification kinds.Notification (h.0, h.1, inr h.2) refl refl
  kept (TableOf d j) h = tables_kept t fit d h.0.0 h.0.1 j h
  kept (FrameOf f) h = ap (λ z. keeps (spec_of t) (option_map_or frame_object z objects.Endpoint)) h.1
      ∙ fit.frames h.0 (in_place h.0 t.spaces.frames f h.1)

  pub spec_kept : IsKept (spec_of t)
  spec_kept = record {
    few = (let m = length-map (parts t) (entry t) in let l = fit.objects in omega (arith, m, l));
    names = names_kept t fit.connections fit.objects;
    objects = list_all-map (λ (e : Entry). keeps (spec_of t) e.object) (entry t) (parts t)
        ∙ all_pass (λ (p : Part). keeps (spec_of t) (object t p.what)) (parts t) (λ p i. kept p.what (there t p i));
    lines = lines_kept t fit;
  }
