-- The boot edges of a spec that gives less are boot edges of the other one.
use Rattle.std.proofs.Common.{rules}
use Rattle.flow_model.proofs.LawsCommon.{Authority, Cap, Edge, Held, List, Option, Spec, Structural, Valid, ap, arith, boot, confers, kind_at, label_of, none_saved, nothing_pending, of_buffer, of_irq, of_mapped, of_reply, of_root, of_saved}
use Rattle.flow_model.proofs.LawsCommon.{of_space, of_table, option_confers, true, ℕ, ◌∙◌, ◌≡◌}
use Rattle.cap_model.proofs.Conferring.{lessened_option}
use Rattle.flow_model.specs.Less.{IsLess, IsPart}

module _ (less spec : Spec) (labels : List ℕ) (is : IsLess less spec) where
  -- part of a capability confers no more
  part_confers : (cap whole : Cap) (a : Authority) → IsPart cap whole → confers less cap a ≡ true → confers spec whole a ≡ true
  part_confers cap whole a part conf = search (rules, kind_at, option_confers, lessened_option)

  to_whole : (cap whole : Cap) (m : ℕ) → IsPart cap whole → m ≡ label_of labels cap.object → m ≡ label_of labels whole.object
  to_whole cap whole m part e = e ∙ ap (label_of labels) part.object

  held_less : (l : ℕ) (a : Authority) (m : ℕ) → Held less labels (boot less) l a m → Held spec labels (boot spec) l a m
  held_less l a m (c, i, cap, there, conf, el, em) =
      let (j, whole, stands, part) = is.caps c i cap there in
      (c, j, whole, stands, part_confers cap whole a part conf, el, to_whole cap whole m part em)

  structural_less : (l : ℕ) (a : Authority) (m : ℕ) → Structural less labels (boot less) l a m
      → Structural spec labels (boot spec) l a m
  structural_less l a m (of_buffer (t, cap, there, conf, el, em)) = search (rules, part_confers, to_whole)
  structural_less l a m (of_table (p, i, cap, there, conf, el, em)) =
      let (j, whole, stands, part) = is.tables p i cap there in
      of_table (p, j, whole, stands, part_confers cap whole a part conf, el, to_whole cap whole m part em)
  structural_less l a m (of_root (t, d, there, ea, el, em)) = of_root (t, d, is.roots t d there, ea, el, em)
  structural_less l a m (of_space (t, d, there, ea, el, em)) = of_space (t, d, is.spaces t d there, ea, el, em)
  structural_less l a m (of_reply (t, p, there, ea, el, em)) = absurd (let none = nothing_pending less t in cc)
  structural_less l a m (of_saved (c, i, p, there, ea, el, em)) = absurd (none_saved less c i p there)
  structural_less l a m (of_mapped (x, there, gives, el, em)) = absurd (let w = there.1 in omega arith)
  structural_less l a m (of_irq (d, n, there, ea, el, em)) = of_irq (d, n, is.irqs d n there, ea, el, em)

pub less_valid : (less spec : Spec) (labels : List ℕ) (policy cert : List Edge) → IsLess less spec → Valid spec labels policy cert
    → Valid less labels policy cert
less_valid less spec labels policy cert is v = record {
  boot_held = λ l a m held. v.boot_held l a m (held_less less spec labels is l a m held);
  boot_structural = λ l a m edge differ. v.boot_structural l a m (structural_less less spec labels is l a m edge) differ;
  control_out = v.control_out;
  control_back = v.control_back;
  grant = v.grant;
  call = v.call;
  grant_back = v.grant_back;
  bind = v.bind;
  in_policy = v.in_policy;
}
