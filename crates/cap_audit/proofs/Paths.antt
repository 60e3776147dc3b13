-- Ways and paths as more is found, and as ways are added.
use Rattle.std.proofs.Common.{rules}
use Rattle.cap_audit.proofs.Common.{AllGo, AreWays, Brings, Cap, Connects, Contains, Course, Found, Grows, Held, HoldsAt, InClass, IsFound, IsWay, IsWeb, JoinsBack, Lanes, Later, Leads, LeadsTo, List, Merges, Near, None, Option, Pair, Path, Some}
use Rattle.cap_audit.proofs.Common.{Spec, Unites, Way, Web, Widened, Widens, [], along, ap, arith, at_end, get_or, held_by, inl, inr, is_at_below, is_known, length, length-set, refl, row_at, slice_get, subst, sym, true, ways_from, with_way, ℕ, ◌++◌}
use Rattle.cap_audit.proofs.Common.{◌<◌, ◌∙◌, ◌∷◌, ◌≡◌}
use Rattle.cap_audit.proofs.Bringing.{none_within, end_cnode}
use Rattle.cap_audit.proofs.InRows.{more_kept, more_cases, more_there}
use Rattle.cap_model.specs.declared.kind.Kind.TheVariants as kinds
use Rattle.cap_audit.specs.Ways.{HaveGone}
use Rattle.cap_audit.specs.declared.found.Course.TheVariants as courses

pub grows_same : (f : Found) → Grows f f
grows_same f = record { values = refl; held = λ c y there. there; known = λ c v there. there; queue = λ k pair there. there }

pub grows_then : (f g h : Found) → Grows f g → Grows g h → Grows f h
grows_then f g h a b = search (rules)

pub later_same : (spec : Spec) (f : Found) → IsFound spec f → Later spec f f
later_same spec f found = record { found = found; grows = grows_same f; fewer = refl }

pub later_then : (spec : Spec) (f g h : Found) → Later spec f g → Later spec g h → Later spec f h
later_then spec f g h a b = record { found = b.found; grows = grows_then f g h a.grows b.grows; fewer = b.fewer ∙ a.fewer }

pub later_brings : (spec : Spec) (f g h : Found) (way : Way) (held : Held) → Later spec f g → Brings spec g way held h
    → Later spec f h
later_brings spec f g h way held a b = search (rules, grows_then)

pub holds_on : (f g : Found) → Grows f g → (c i : ℕ) (cap : Cap) → HoldsAt f c i cap → HoldsAt g c i cap
holds_on f g grows c i cap at = search (rules, slice_get)

pub leads_on : (spec : Spec) (f g : Found) → Grows f g → (c d : ℕ) (course : Course) → Leads spec f c d course
    → Leads spec g c d course
leads_on spec f g grows c d (courses.Take t i) (cap, root, at, is, same) = (cap, root, holds_on f g grows d i cap at, is, same)
leads_on spec f g grows c d (courses.Put t i) (cap, root, at, is, same) = (cap, root, holds_on f g grows c i cap at, is, same)
leads_on spec f g grows c d (courses.Grant t i u j) (to, from, roots, own, listens, meet, may) =
    (to, from, roots, holds_on f g grows c i to own, holds_on f g grows d j from listens, meet, may)
leads_on spec f g grows c d (courses.Reply t i u j) (to, from, roots, own, listens, meet, may, back) =
    (to, from, roots, holds_on f g grows d i to own, holds_on f g grows c j from listens, meet, may, back)

pub ways_on : (spec : Spec) (f g : Found) (net : Lanes) → Grows f g → AreWays spec f net → AreWays spec g net
ways_on spec f g net grows a =
    record {
      ways = λ c way there. leads_on spec f g grows c way.to way.course (a.ways c way there);
      joined = a.joined;
      as_many = a.as_many;
      as_many_classes = a.as_many_classes;
    }

-- the first pairs of a queue are those of a longer one
pub queue_same : (f g : Found) (k : ℕ) (pair : Pair) → Grows f g → k < length f.queue → slice_get g.queue k ≡ Some pair
    → slice_get f.queue k ≡ Some pair
queue_same f g k pair grows less h = search (rules, slice_get, none_within)

pub path_then : (net : Lanes) (c d e : ℕ) → Path net c d → Path net d e → Path net c e
path_then net c d e p q = extend net c d e p q where
  extend : (net : Lanes) (c d e : ℕ) → Path net c d → Path net d e → Path net c e
  extend net c d e at_end q = q
  extend net c d e (along way there p) q = along way there (extend net way.to d e p q)

pub path_on : (net wide : Lanes) → Widens net wide → (c d : ℕ) → Path net c d → Path wide c d
path_on net wide w c d at_end = at_end
path_on net wide w c d (along way there p) = along way (w.ways c way there) (path_on net wide w way.to d p)

pub widens_same : (net : Lanes) → Widens net net
widens_same net = record { ways = λ c way there. there }

pub widens_then : (a b c : Lanes) → Widens a b → Widens b c → Widens a c
widens_then a b c f g = record { ways = λ n way there. g.ways n way (f.ways n way there) }

-- what has gone along all ways has gone along paths
pub known_along : (f : Found) (net : Lanes) (v : ℕ) → ((c : ℕ) (way : Way) → is_known f c v ≡ true
    → Contains (ways_from net c) way → is_known f way.to v ≡ true)
    → (c d : ℕ) → Path net c d → is_known f c v ≡ true → is_known f d v ≡ true
known_along f net v goes c d at_end h = h
known_along f net v goes c d (along way there p) h = known_along f net v goes way.to d p (goes c way h there)

-- a way more
module _ (spec : Spec) (web : Web) (c : ℕ) (way : Way) (is : IsWeb spec web) (leads : IsWay spec web.findings c way) (new : Web)
    (all : AllGo spec web.findings way (held_by web.findings c) new.findings) (less : c < length spec.entries)
    (made : new.net ≡ with_way web.net c way) where
  wider : Widens web.net (with_way web.net c way)
  wider = record { ways = more_kept web.net.out c way }

  pub way_connects : Connects spec web c way.to new
  unfolding HaveGone
  way_connects = record {
    widened = record {
      later = all.later;
      ways = rw made (record {
        ways = λ k w there. elim (more_cases web.net.out c way k w there) [
          | inl old ↦ leads_on spec web.findings new.findings all.later.grows k w.to w.course (is.ways.ways k w old)
          | inr e ↦ rw (e.0, ← e.1) (leads_on spec web.findings new.findings all.later.grows c way.to way.course leads)
        ];
        joined = λ x y i. path_on web.net (with_way web.net c way) wider x y
            (is.ways.joined x y (record { one = i.one; other = i.other; same = i.same }));
        as_many = length-set web.net.out c (row_at web.net.out c ++ way ∷ []) ∙ is.ways.as_many;
        as_many_classes = is.ways.as_many_classes;
      });
      widens = rw made wider;
      gone = λ done le gone. rw made (λ k pair w below h there. (
          let old : slice_get web.findings.queue k ≡ Some pair = search (rules, queue_same) in
          elim (more_cases web.net.out c way pair.node w there) [
            | inl before ↦ all.later.grows.known w.to pair.held.value (gone k pair w below old before)
            | inr e ↦ rw (← e.1) (all.there pair.held (subst (λ (n : ℕ). Contains (held_by web.findings n) pair.held) e.0
                (is.found.queued k pair old)))
          ]));
    };
    path = rw made (along way (more_there web.net.out c way (let e = is.ways.as_many in omega arith)) at_end);
  }

pub widened_same : (spec : Spec) (web : Web) → IsWeb spec web → Widened spec web web
widened_same spec web is = search (rules, later_same, widens_same)

-- ways that are there already

near_path : (spec : Spec) (f : Found) (net : Lanes) (c d : ℕ) → AreWays spec f net → Near net c d → Path net c d
near_path spec f net c d A (inl same) = subst (λ (n : ℕ). Path net c n) same at_end
near_path spec f net c d A (inr joined) = A.joined c d joined

pub lead_path : (spec : Spec) (f : Found) (net : Lanes) (c d : ℕ) → AreWays spec f net → LeadsTo net c d → Path net c d
lead_path spec f net c d A l =
    path_then net c l.by d (near_path spec f net c l.by A l.from)
    (along l.has.way l.has.there (near_path spec f net l.has.way.to d A l.has.to))

pub lead_connects : (spec : Spec) (web : Web) (c d : ℕ) → IsWeb spec web → LeadsTo web.net c d → Connects spec web c d web
lead_connects spec web c d is l = record {
  widened = widened_same spec web is;
  path = lead_path spec web.findings web.net c d is.ways l;
}

pub joined_connects : (spec : Spec) (web : Web) (c d : ℕ) → IsWeb spec web → InClass web.net c d → Connects spec web c d web
joined_connects spec web c d is same = record { widened = widened_same spec web is; path = is.ways.joined c d same }

-- classes that ways join both ways are made one

module _ (spec : Spec) (f : Found) (net : Lanes) (A : AreWays spec f net) (c d : ℕ) (classes : List ℕ)
    (m : Merges net.classes c d classes) (there : Path net c d) (back : Path net d c)
    (c_less : c < length net.classes) (d_less : d < length net.classes) where
  abbrev merged : Lanes
  merged = record { out = net.out; classes = classes }

  widened : Widens net merged
  widened = record { ways = λ k w there. there }

  old_path : (x y : ℕ) → x < length classes → y < length classes → get_or net.classes x 0 ≡ get_or net.classes y 0 → Path net x y
  old_path x y one other same =
      A.joined x y (record { one = (let e = m.as_many in omega arith); other = (let e = m.as_many in omega arith); same = same })

  c_here : c < length classes
  c_here = let e = m.as_many in omega arith

  d_here : d < length classes
  d_here = let e = m.as_many in omega arith

  pub merged_path : (x y : ℕ) → InClass merged x y → Path net x y
  merged_path x y i = elim (m.each x) [
    | inl kept_x ↦ elim (m.each y) [
      | inl kept_y ↦ old_path x y i.one i.other (sym kept_x ∙ (i.same ∙ kept_y))
      | inr moved_y ↦ path_then net x c y (old_path x c i.one c_here (sym kept_x ∙ (i.same ∙ moved_y.1)))
          (path_then net c d y there (old_path d y d_here i.other (sym moved_y.0)))
    ]
    | inr moved_x ↦ elim (m.each y) [
      | inl kept_y ↦ path_then net x d y (old_path x d i.one d_here moved_x.0)
          (path_then net d c y back (old_path c y c_here i.other (sym moved_x.1 ∙ (i.same ∙ kept_y))))
      | inr moved_y ↦ old_path x y i.one i.other (moved_x.0 ∙ sym moved_y.0)
    ]
  ]

  pub merged_ways : AreWays spec f merged
  merged_ways = search (rules, path_on, widened, merged_path)

pub end_below : (spec : Spec) (f : Found) (c : ℕ) (way : Way) → IsFound spec f → IsWay spec f c way → way.to < length spec.entries
end_below spec f c way F leads = is_at_below spec kinds.CNode way.to (end_cnode spec f F c way.to way.course leads)

-- other classes, with ways that lead as they say
pub relabelled_widens : (spec : Spec) (web mid new : Web) → Widened spec web mid → new.findings ≡ mid.findings
    → new.net.out ≡ mid.net.out → AreWays spec mid.findings (record mid.net { classes = new.net.classes }) → Widened spec web new
unfolding HaveGone
relabelled_widens spec web mid new w same out ways =
    let net : Lanes = record mid.net { classes = new.net.classes } in
    let is : net ≡ new.net = ap (λ (o : List (List Way)). let y : Lanes = record new.net { out = o } in y) (sym out) in
    record {
      later = rw same w.later;
      ways = rw same (subst (λ (n : Lanes). AreWays spec mid.findings n) is ways);
      widens = subst (λ (n : Lanes). Widens web.net n) is (record { ways = w.widens.ways });
      gone = λ done le gone. rw same (subst (λ (n : Lanes). HaveGone mid.findings n done) is
          (λ k pair way less h there. w.gone done le gone k pair way less h there));
    }

-- the ends of a new way are one class where a way led back
module _ (spec : Spec) (web mid new : Web) (c d : ℕ) (x : Connects spec web c d mid) (c_less : c < length spec.entries)
    (d_less : d < length spec.entries) (same : new.findings ≡ mid.findings) where
  joined_both : LeadsTo mid.net d c → new.net.out ≡ mid.net.out → Unites mid.net.classes c d new.net.classes
      → Connects spec web c d new
  joined_both back out u =
      let ways = x.widened.ways in
      let many = ways.as_many_classes in
      let to_back = lead_path spec mid.findings mid.net d c ways back in
      let widened = relabelled_widens spec web mid new x.widened same out (elim u [
        | inl m ↦ merged_ways spec mid.findings mid.net ways c d new.net.classes m x.path to_back (omega arith) (omega arith)
        | inr m ↦ merged_ways spec mid.findings mid.net ways d c new.net.classes m to_back x.path (omega arith) (omega arith)
      ]) in
      record {
        widened = widened;
        path = path_on mid.net new.net (search (rules)) c d x.path;
      }

  pub connects_back : JoinsBack mid.net c d new.net → Connects spec web c d new
  connects_back (inl is) = search (rules, widened)
  connects_back (inr (back, out, u)) = joined_both back out u
