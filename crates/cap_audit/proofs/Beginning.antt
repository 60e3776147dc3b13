-- How a search begins.
use Rattle.std.proofs.Common.{rules}
use Rattle.cap_audit.proofs.Common.{AreRoots, Bool, Cap, Contains, Doors, Entry, Found, Gathering, HasRoot, HasSlots, HasValue, Held, HoldsAt, InClass, IsCounted, IsFound, IsHub, IsKept, IsSearch, List, Marks, Member, None, Object, Option, Pair}
use Rattle.cap_audit.proofs.Common.{Passage, Path, Queued, Run, Side, Some, Spec, Starts, Step, Way, Web, [], ap, arith, at_contains, at_end, at_object, blank_row, blank_rows, boot, boot_node, cases_lt, contains_at, entry_at, false, get_or}
use Rattle.cap_audit.proofs.Common.{get_or-before_last, get_or-last, get_or-set_same, held_by, hub_of, inl, inr, is_at, is_at_below, is_known, kind_is, kind_of_object, length, length-append, length-map, length-set, map, marks_of, members_at}
use Rattle.cap_audit.proofs.Common.{no_node, object_at, owned, pushed_last, read_written, refl, replicate, root_of, rooted, row_at, set, side_of, slice_get, slice_get-get_or, slice_get_within, slots_at, slots_of, subst, suc, sym, true, with_mark}
use Rattle.cap_audit.proofs.Common.{with_rows, with_value, zero, ℕ, ◌++◌, ◌+◌, ◌<◌, ◌∙◌, ◌∷◌, ◌≡◌, ◌≤◌, ◌⊎◌}
use Rattle.cap_model.specs.declared.kind.Kind.{Kind}
use Rattle.cap_model.specs.declared.kind.Kind.TheVariants as kinds
use Rattle.cap_model.specs.declared.object.Object.TheVariants as objects
use Rattle.cap_audit.specs.Ways.{HaveGone}
use Rattle.cap_audit.specs.declared.hubs.Passage.TheVariants as passages
use Rattle.cap_audit.specs.declared.hubs.Side.TheVariants as sides
use Rattle.cap_audit.proofs.InRows.{blank_at, more_cases, more_kept, more_there, none_in_blank}
use Rattle.std.proofs.lemmas.List.{length-replicate}
use Rattle.cap_audit.proofs.Bringing.{none_within, at_pushed, pushed_cases, mark_kept, mark_cases, mark_there, mark_lengths}
use Rattle.cap_audit.proofs.Quiet.{slot_at_boot, boot_quiet, quiet_cnode}

pub slots_inside : (spec : Spec) (c k : ℕ) (x : ℕ × Cap) → slice_get (slots_at spec c) k ≡ Some x → c < length spec.entries
slots_inside spec c k x h = search (rules, slice_get, slice_get_within)

slots_kind : (object : Object) (x : ℕ × Cap) → Contains (slots_of (Some object)) x → kind_of_object object ≡ kinds.CNode
slots_kind (objects.CNode bits slots) x there = refl
slots_kind _ x there = absurd (let w = there.1 in omega arith)

slots_cnode : (spec : Spec) (c : ℕ) → (x : ℕ × Cap) × Contains (slots_at spec c) x → is_at spec kinds.CNode c ≡ true
slots_cnode spec c (x, there) = search (rules, slots_kind)

value_there : (values : List Cap) (v : ℕ) → v < length values → (cap : Cap) × (slice_get values v ≡ Some cap)
value_there values v less = go (slice_get values v) refl where
  go : (o : Option Cap) → slice_get values v ≡ o → (cap : Cap) × (slice_get values v ≡ Some cap)
  go (Some cap) h = (cap, h)
  go None h = absurd (none_within values v h less)

-- blank rows

row_blank : (width : ℕ) (object : Object) (v : ℕ) → get_or (blank_row width object) v false ≡ false
row_blank width (objects.CNode bits slots) v = blank_at false width v
row_blank width _ v = refl

rows_blank : (width : ℕ) (entries : List Entry) (c v : ℕ) → get_or (get_or (blank_rows width entries) c []) v false ≡ false
rows_blank width [] c v = refl
rows_blank width (e ∷ entries) zero v = row_blank width e.object v
rows_blank width (e ∷ entries) (suc c) v = rows_blank width entries c v

next_at : (entries : List Entry) (c : ℕ) → (get_or (map (λ (e : Entry). boot_node e.object) entries) c no_node).next ≡ get_or
    (map (λ (e : Entry). (boot_node e.object).next) entries) c 0
next_at (e ∷ entries) (suc c) = next_at entries c
next_at _ _ = refl

pub blank_starts : (spec : Spec) → Starts spec (record {
  values = [];
  held = replicate (length spec.entries) [];
  known = [];
  queue = [];
  steps = [];
  nexts = map (λ (e : Entry). (boot_node e.object).next) spec.entries;
}) 0 0
blank_starts spec = record {
  steps = refl;
  nexts = next_at spec.entries;
  row_nexts = length-map spec.entries (λ (e : Entry). (boot_node e.object).next);
  row_held = length-replicate (length spec.entries) [];
  own = λ c i cap at. absurd (none_in_blank (length spec.entries) c (record { value = at.value; number = i }) at.held);
  queued = λ k pair h. absurd cc;
  valued = λ c held there. absurd (none_in_blank (length spec.entries) c held there);
  slots = λ c k slot h less. absurd (elim less [ inl l ↦ omega arith | inr e ↦ (let x = e.1 in omega arith) ]);
}

-- one slot more

value_queued : (f : Found) (x : Cap) (c : ℕ) (cap : Cap) → Queued f c cap → Queued (with_value f x) c cap
value_queued f x c cap q = search (rules, at_pushed)

value_starts : (spec : Spec) (f : Found) (n m : ℕ) (x : Cap) → Starts spec f n m → Starts spec (with_value f x) n m
value_starts spec f n m x s = record {
  steps = s.steps;
  nexts = s.nexts;
  row_nexts = s.row_nexts;
  row_held = s.row_held;
  own = λ c i cap at. elim (pushed_cases f.values x cap at.value at.is) [
    | inl is ↦ s.own c i cap (record { value = at.value; held = at.held; is = is })
    | inr last ↦ absurd (let below = s.valued c (record { value = at.value; number = i }) at.held in
        let e = last.0 in omega arith)
  ];
  queued = s.queued;
  valued = λ c held there. (let below = s.valued c held there in let more = length-append f.values (x ∷ []) in omega arith);
  slots = λ c k slot h before. value_queued f x c slot.1 (s.slots c k slot h before);
}

-- the same, where the values have this one
pub valued_starts : (spec : Spec) (f new : Found) (n m place : ℕ) (x : Cap) → HasValue f x new place → Starts spec f n m
    → Starts spec new n m
valued_starts spec f new n m place x has s = elim has.0 [
  | inl same ↦ subst (λ (g : Found). Starts spec g n m) (sym same) s
  | inr more ↦ subst (λ (g : Found). Starts spec g n m) (sym more) (value_starts spec f n m x s)
]

module _ (spec : Spec) (f : Found) (n m : ℕ) (s : Starts spec f n m) (slot : ℕ × Cap) (here : slice_get (slots_at spec n) m ≡ Some
    slot) (less : n < length spec.entries) (v : ℕ) (value : slice_get f.values v ≡ Some slot.1) where
  abbrev held : Held
  held = record { value = v; number = slot.0 }

  abbrev after : Found
  after = owned f n held

  queued_on : (c : ℕ) (cap : Cap) → Queued f c cap → Queued after c cap
  queued_on c cap q = search (rules, at_pushed)

  own_after : (c i : ℕ) (cap : Cap) → HoldsAt after c i cap → Contains (slots_at spec c) (i, cap)
  own_after c i cap at = elim (more_cases f.held n held c (record { value = at.value; number = i }) at.held) [
    | inl old ↦ s.own c i cap (record { value = at.value; held = old; is = at.is })
    | inr new ↦ search (rules, slice_get, at_contains)
  ]

  pub owned_starts : Starts spec after n (m + 1)
  owned_starts = record {
    steps = s.steps;
    nexts = s.nexts;
    row_nexts = s.row_nexts;
    row_held = length-set f.held n (held_by f n ++ held ∷ []) ∙ s.row_held;
    own = own_after;
    queued = λ k pair h. elim (pushed_cases f.queue (record { node = n; held = held }) pair k h) [
      | inl old ↦ more_kept f.held n held pair.node pair.held (s.queued k pair old)
      | inr new ↦ subst (λ (p : Pair). Contains (held_by after p.node) p.held) new.1
          (more_there f.held n held (let e = s.row_held in omega arith))
    ];
    valued = λ c x there. elim (more_cases f.held n held c x there) [
      | inl old ↦ s.valued c x old
      | inr new ↦ (let e : v ≡ x.value = ap (λ (h : Held). h.value) new.1 in
          let below = slice_get_within f.values v slot.1 value in omega arith)
    ];
    slots = λ c k x h before. slots_after c k x h before;
  } where
    slots_after : (c k : ℕ) (x : ℕ × Cap) → slice_get (slots_at spec c) k ≡ Some x → (c < n) ⊎ ((c ≡ n) × (k < m + 1))
        → Queued after c x.1
    slots_after c k x h (inl below) = queued_on c x.1 (s.slots c k x h (inl below))
    slots_after c k x h (inr (same, less)) = elim (cases_lt k m) [
      | inl below ↦ queued_on c x.1 (s.slots c k x h (inr (same, below)))
      | inr ge ↦ (
          let at : k ≡ m = omega arith in
          let slot_is : slot ≡ x = search (rules, slice_get) in
          subst (λ (y : ℕ × Cap). Queued after c y.1) slot_is
          (record {
            place = length f.queue;
            pair = record { node = n; held = held };
            there = pushed_last f.queue (record { node = n; held = held });
            node = sym same;
            is = value;
          }))
    ]

-- all slots of an object
pub next_object : (spec : Spec) (f : Found) (n m : ℕ) → Starts spec f n m → length (slots_at spec n) ≤ m → Starts spec f (n + 1) 0
next_object spec f n m s all = search (rules, slice_get, cases_lt, slice_get_within)

-- rows, and marks in them

cnode_row : (width : ℕ) (object : Object) → ◌≡◌ {A = Option Kind} (Some (kind_of_object object)) (Some kinds.CNode)
    → length (blank_row width object) ≡ width
cnode_row width (objects.CNode bits slots) h = length-replicate width false
cnode_row width _ h = absurd cc

row_width : (spec : Spec) (width c : ℕ) → is_at spec kinds.CNode c ≡ true
    → length (get_or (blank_rows width spec.entries) c []) ≡ width
row_width spec width c is = go (slice_get spec.entries c) refl where
  go : (e : Option Entry) → slice_get spec.entries c ≡ e → length (get_or (blank_rows width spec.entries) c []) ≡ width
  go None h = absurd (let w : is_at spec kinds.CNode c ≡ false = rw h refl in cc)
  go (Some entry) h =
      ap (λ (row : List Bool). length row) (entry_at (blank_row width) spec.entries c [] entry h) ∙ cnode_row width entry.object
      (sym (at_object spec c entry entry.object h refl) ∙ kind_is spec kinds.CNode c is)

pub rows_marks : (spec : Spec) (f : Found) → Starts spec f (length spec.entries) 0
    → Marks spec (with_rows f (blank_rows (length f.values) spec.entries)) 0
rows_marks spec f s = record {
  starts = record {
    steps = s.steps;
    nexts = s.nexts;
    row_nexts = s.row_nexts;
    row_held = s.row_held;
    own = λ c i cap at. s.own c i cap (record { value = at.value; held = at.held; is = at.is });
    queued = s.queued;
    valued = s.valued;
    slots = λ c k slot h b. (let q = s.slots c k slot h b in record {
      place = q.place;
      pair = q.pair;
      there = q.there;
      node = q.node;
      is = q.is;
    });
  };
  row_each = length-map spec.entries (λ (e : Entry). blank_row (length f.values) e.object);
  rows = λ c is. row_width spec (length f.values) c is;
  known = λ c v h. absurd (let none : is_known (with_rows f (blank_rows (length f.values) spec.entries)) c v ≡ false = rows_blank
      (length f.values) spec.entries c v in cc);
  marked = λ k pair less h. absurd (omega arith);
}

module _ (spec : Spec) (f : Found) (done : ℕ) (m : Marks spec f done) (pair : Pair)
    (here : slice_get f.queue done ≡ Some pair) where
  cnode_held : is_at spec kinds.CNode pair.node ≡ true
  cnode_held = slots_cnode spec pair.node (held_slot pair.held (m.starts.queued done pair here)) where
    held_slot : (held : Held) → Contains (held_by f pair.node) held → (x : ℕ × Cap) × Contains (slots_at spec pair.node) x
    held_slot held there =
        let v = value_there f.values held.value (m.starts.valued pair.node held there) in
        ((held.number, v.0), m.starts.own pair.node held.number v.0 (record { value = held.value; held = there; is = v.1 }))

  pub marks_more : Marks spec (with_mark f pair) (done + 1)
  marks_more = record {
    starts = record {
      steps = m.starts.steps;
      nexts = m.starts.nexts;
      row_nexts = m.starts.row_nexts;
      row_held = m.starts.row_held;
      own = λ c i cap at. m.starts.own c i cap (record { value = at.value; held = at.held; is = at.is });
      queued = m.starts.queued;
      valued = m.starts.valued;
      slots = λ c k slot h b. (let q = m.starts.slots c k slot h b in record {
        place = q.place;
        pair = q.pair;
        there = q.there;
        node = q.node;
        is = q.is;
      });
    };
    row_each = length-set f.known pair.node (set (marks_of f pair.node) pair.held.value true) ∙ m.row_each;
    rows = λ c is. mark_lengths f.known pair.node pair.held.value c ∙ m.rows c is;
    known = search (rules, mark_cases);
    marked = λ k p less h. elim (cases_lt k done) [
      | inl below ↦ mark_kept f.known pair.node pair.held.value p.node p.held.value (m.marked k p below h)
      | inr ge ↦ (
          let at : k ≡ done = omega arith in
          let same : pair ≡ p = (let a : slice_get f.queue done ≡ Some p = subst (λ (n : ℕ). slice_get f.queue n ≡ Some p) at h in
          cc) in
          subst (λ (q : Pair). is_known (with_mark f pair) q.node q.held.value ≡ true) same
          (mark_there f.known pair.node pair.held.value
          (let e = m.row_each in let below = is_at_below spec kinds.CNode pair.node cnode_held in omega arith)
          (let e = m.rows pair.node cnode_held in
          let below = m.starts.valued pair.node pair.held (m.starts.queued done pair here) in omega arith)))
    ];
  }

pub marks_found : (spec : Spec) (f : Found) → IsKept spec → Marks spec f (length f.queue) → IsFound spec f
marks_found spec f kept m = record {
  state = boot spec;
  run = subst (λ (steps : List Step). Run spec (boot spec) steps (boot spec)) (sym m.starts.steps) refl;
  quiet = boot_quiet spec kept;
  nexts = m.starts.nexts;
  there = λ c i cap at. slot_at_boot spec c i cap kept (m.starts.own c i cap at);
  queued = m.starts.queued;
  known = m.known;
  marked = λ k pair h. m.marked k pair (slice_get_within f.queue k pair h) h;
  valued = m.starts.valued;
  rows = m.rows;
  row_each = m.row_each;
  row_held = m.starts.row_held;
  row_nexts = m.starts.row_nexts;
}

pub marks_slots : (spec : Spec) (f : Found) → Marks spec f (length f.queue) → HasSlots spec f
marks_slots spec f m = record {
  each = λ c i cap there. (
      let k = contains_at (slots_at spec c) (i, cap) there in
      let q : Queued f c cap = m.starts.slots c k.0 (i, cap) k.1 (inl (slots_inside spec c k.0 (i, cap) k.1)) in (
        q.pair.held.value,
        q.is,
        subst (λ (n : ℕ). is_known f n q.pair.held.value ≡ true) q.node
            (m.marked q.place q.pair (slice_get_within f.queue q.place q.pair q.there) q.there),
      ));
}

pub blank_at_parts : (spec : Spec) (values : List Cap) (shelves : List (List Held)) (known : List (List Bool)) (queue : List Pair)
    (steps : List Step) (nexts : List ℕ) → values ≡ []
    → shelves ≡ replicate (length spec.entries) [] → known ≡ [] → queue ≡ [] → steps ≡ []
    → nexts ≡ map (λ (e : Entry). (boot_node e.object).next) spec.entries
    → Starts spec (record { values = values; held = shelves; known = known; queue = queue; steps = steps; nexts = nexts }) 0 0
blank_at_parts spec values shelves known queue steps nexts a b c d e f = rw (a, b, c, d, e, f) (blank_starts spec)

-- counted numbers

pub counted_more : (numbers new : List ℕ) (n : ℕ) → IsCounted numbers n → new ≡ numbers ++ n ∷ [] → IsCounted new (n + 1)
counted_more numbers new n c made = search (rules, length-append, cases_lt, get_or-before_last, get_or-last)

-- roots

pub root_item : (spec : Spec) (t : ℕ) (d : Entry) → t < length spec.entries
    → root_of (Some (get_or spec.entries t d).object) ≡ root_of (object_at spec t)
root_item spec t d less = let e = slice_get-get_or spec.entries t d less in rw e refl

-- the roots of the first threads are in
pub record RootsBelow (spec : Spec) (roots : List (Option ℕ)) (n : ℕ) : Type 0 where
  pub as_many : length roots ≡ length spec.entries
  pub true_ones : (c t : ℕ) → get_or roots c None ≡ Some t → HasRoot spec t c
  pub all_ones : (c t : ℕ) → t < n → HasRoot spec t c → get_or roots c None ≡ None → ⊥

pub no_roots_below : (spec : Spec) (roots : List (Option ℕ)) → roots ≡ replicate (length spec.entries) None
    → RootsBelow spec roots 0
no_roots_below spec roots is = search (rules, length-replicate, blank_at)

pub root_inside : (spec : Spec) (t c : ℕ) → IsKept spec → HasRoot spec t c → c < length spec.entries
root_inside spec t c kept root = is_at_below spec kinds.CNode c (quiet_cnode spec (boot spec) (boot_quiet spec kept) t c root)

pub roots_more : (spec : Spec) (roots new : List (Option ℕ)) (n : ℕ) (root : Option ℕ) → IsKept spec → RootsBelow spec roots n
    → root_of (object_at spec n) ≡ root → new ≡ rooted roots root n → RootsBelow spec new (n + 1)
roots_more spec roots new n None kept r is made = search (rules, cases_lt)
roots_more spec roots new n (Some d) kept r is made =
    search (rules, length-set, read_written, cases_lt, root_inside, set, get_or-set_same)

pub thread_inside : (spec : Spec) (t c : ℕ) → HasRoot spec t c → t < length spec.entries
thread_inside spec t c root = search (rules, slice_get, slice_get_within)

pub roots_all : (spec : Spec) (roots : List (Option ℕ)) → RootsBelow spec roots (length spec.entries) → AreRoots spec roots
roots_all spec roots r = search (rules, thread_inside)

-- nets and hubs with nothing in them

abbrev pub no_hub : ℕ → Gathering
no_hub n = record { givers = replicate n []; takers = replicate n [] }

pub blank_search : (spec : Spec) (web : Web) (doors : Doors) → IsFound spec web.findings
    → web.net.out ≡ replicate (length spec.entries) [] → IsCounted web.net.classes (length spec.entries)
    → doors.grants ≡ no_hub (length spec.entries) → doors.replies ≡ no_hub (length spec.entries) → IsSearch spec web doors 0
unfolding HaveGone
blank_search spec web doors F out counted grants replies = record {
  is = record {
    found = F;
    ways = record {
      ways = λ c way there. absurd (none_in_blank (length spec.entries) c way
          (subst (λ (o : List (List Way)). Contains (row_at o c) way) out there));
      joined = λ c d i. subst (λ (n : ℕ). Path web.net c n) (same_class c d i) at_end;
      as_many = ap (λ (o : List (List Way)). length o) out ∙ length-replicate (length spec.entries) [];
      as_many_classes = counted.as_many;
    };
  };
  hubs = λ by. subst (λ (h : Gathering). IsHub spec web by h) (sym (all_blank by)) (blank_hub by);
  gone = λ k pair way less h there. absurd (omega arith);
  covered = λ k pair cap less h v. absurd (omega arith);
} where
  same_class : (c d : ℕ) → InClass web.net c d → c ≡ d
  same_class c d i = search (rules)

  all_blank : (by : Passage) → hub_of doors by ≡ no_hub (length spec.entries)
  all_blank passages.Grant = grants
  all_blank passages.Reply = replies

  nobody : (side : Side) (e : ℕ) (m : Member) → Contains (members_at (no_hub (length spec.entries)) side e) m → ⊥
  nobody sides.Giving e m there = none_in_blank (length spec.entries) e m there
  nobody sides.Taking e m there = none_in_blank (length spec.entries) e m there

  many : (side : Side) → length (side_of (no_hub (length spec.entries)) side) ≡ length spec.entries
  many sides.Giving = length-replicate (length spec.entries) []
  many sides.Taking = length-replicate (length spec.entries) []

  blank_hub : (by : Passage) → IsHub spec web by (no_hub (length spec.entries))
  blank_hub by = record {
    members = λ side e m there. absurd (nobody side e m there);
    met = λ side e m o a b. absurd (nobody side e m a);
    as_many = many;
  }
