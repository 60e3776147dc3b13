-- The images of a system, put together
use Rattle.spec_laws.proofs.Common.{AreImages, CanMap, CanSlot, List, Tables, [], ap, labels_of, length, map, map_lines, refl, root_of, rules, spec_of, suc, ◌∷◌, ◌≡◌}
use Rattle.spec_laws.proofs.AllFrames.{all_frames}
use Rattle.spec_laws.proofs.DomainLines.{domains_are}
use Rattle.spec_laws.proofs.FramesInOrder.{frames_in_order}
use Rattle.spec_laws.proofs.Irqs.{irqs_are}
use Rattle.spec_laws.proofs.Joints.{endpoints_are, notifications_are}
use Rattle.spec_laws.proofs.Kinding.{kinds_are}
use Rattle.spec_laws.proofs.Labels.{domain_labels, frame_labels}
use Rattle.spec_laws.proofs.Owning.{own_frames_are}
use Rattle.spec_laws.proofs.Regioning.{regions_are}
use Rattle.spec_laws.proofs.Roots.{roots_are}
use Rattle.spec_laws.proofs.Showing.{memory_frames}
use Rattle.spec_laws.proofs.Spaces.{pages_are}
use Rattle.spec_laws.proofs.StandInOrder.{stand_in_order}
use Rattle.spec_laws.proofs.Tabled.{tables_are}
use Rattle.spec_laws.proofs.TablesInOrder.{tables_in_order}
use Rattle.spec_laws.proofs.Threading.{threads_hold}

as_many : {X Y Z : Type 0} (f : X → Y) (g : X → Z) (xs : List X) → length (map f xs) ≡ length (map g xs)
as_many f g [] = refl
as_many f g (x ∷ xs) = ap suc (as_many f g xs)

pub images_are : (t : Tables) → CanMap t → CanSlot t → AreImages t (spec_of t) (root_of t) (labels_of t) (map_lines t)
images_are t can slotted = record {
  standing = stand_in_order t slotted;
  kinds = kinds_are t;
  domains = domains_are t;
  roots = roots_are t can;
  pages = λ d x h. pages_are t can d x h;
  threads = threads_hold t can;
  regions = regions_are t can;
  tables = tables_are t can;
  frames = record { memory = memory_frames t can; own = own_frames_are t can; all = all_frames t can };
  labels_are = search (rules, as_many, domain_labels, endpoints_are, notifications_are, irqs_are, frame_labels);
  tables_ordered = tables_in_order t can;
  frames_ordered = frames_in_order t can;
}
