use Rattle.cap_audit.proofs.Common.{AreFirsts, AreHeads, HoldsNoThread, List, Made, [], ap, bare, length, subst, sym, ℕ, ◌∙◌, ◌≡◌}
use Rattle.cap_audit.proofs.Assembling.{begun}
use Rattle.cap_audit.proofs.Kinding.{kinds_of}
use Rattle.cap_audit.proofs.report.report.Goals as goal

pub of-requires-clause-as_many : goal.of-requires-clause-as_many
of-requires-clause-as_many c = ap (λ (xs : List ℕ). length xs) c.as_slice.ensures.value ∙ c.in_ok-found.ensures.alike.as_many

pub shown-requires-clause-begun : goal.shown-requires-clause-begun
shown-requires-clause-begun c =
    let f = c.in_ok-found.field-0.findings in
    let classes : List ℕ = c.in_ok-found.field-0.classes.items in
    let faces : List ℕ = c.in_ok-kinds.kinds.faces.items in
    let heads : List ℕ = c.in_ok-kinds.kinds.heads.items in
    let labels : List ℕ = c.args.labels.now.by_object in
    let first : Made = record {
      spec = c.args.spec.now;
      labels = labels;
      found = bare f;
      faces = faces;
      heads = heads;
      edges = [];
      steps = f.steps;
      nexts = f.nexts;
    } in
    let made = c.new-making.ensures in
    let view = c.findings.view_is in
    let found = c.parted-findings.ensures.found in
    let steps = c.parted-findings.ensures.steps in
    let nexts = c.parted-findings.ensures.nexts in
    let is : c.new-making.result ≡ first = cc in
    let are_faces : AreFirsts classes labels faces (length classes) =
    subst (λ (xs : List ℕ). AreFirsts xs labels faces (length xs)) c.as_slice.ensures.value c.in_ok-kinds.ensures.faces in
    let are_heads : AreHeads c.args.spec.now classes heads = subst (λ (xs : List ℕ). AreHeads c.args.spec.now xs heads)
    c.as_slice.ensures.value c.in_ok-kinds.ensures.heads in
    begun c.args.spec.now labels f c.new-making.result c.in_ok-found.ensures.found c.in_ok-found.ensures.closed c.requires.kept
    c.requires.labelled faces heads
    (kinds_of c.args.spec.now f labels classes faces heads c.requires.kept c.in_ok-found.ensures.found c.in_ok-found.ensures.alike
    are_faces are_heads) is

pub shown-requires-clause-none : goal.shown-requires-clause-none
shown-requires-clause-none c = subst (λ (m : Made). HoldsNoThread m.spec) (sym c.new-making.ensures) c.requires.none
