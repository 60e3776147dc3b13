-- What is written of a least certificate is read back under its policy, and the checker says yes to it where it does to any.
use Rattle.std.proofs.Common.{rules}
use Rattle.text_commands.proofs.Common.{All, Bool, Certified, Checked, Contents, Decides-eqb, Edge, Entry, Holds, IsCert, IsCertText, IsCertificate, IsCertified, IsChecked, IsLabelling, IsPolicy}
use Rattle.text_commands.proofs.Common.{IsPolicyRead, IsPolicyText, IsSystem, Judged, Labels, List, Ok, Option, Policy, Some, Spec, Yes, [], ap, arith, false, find, has, inl, is_some, kept_text}
use Rattle.text_commands.proofs.Common.{least_valid, length, length-map, map, object_label, option_map, refl, subst, sym, tell_text, true, ℕ, ◌<◌, ◌==◌, ◌^◌, ◌∙◌, ◌∷◌, ◌≡◌, ◌≤◌}
use Rattle.std.proofs.lemmas.List.Elements.{All-head, All-tail}
use Rattle.std.specs.Str.{bytes_eq}
use Rattle.cap_model.specs.Policies.{label_name}
use Rattle.capdl_text.specs.Texts as capdl
use Rattle.cert_check.specs.Valid.{Valid}
use Rattle.policy_text.specs.EdgeLines as names
use Rattle.policy_text.proofs.EdgeLengths.{cert_short}
use Rattle.policy_text.proofs.Kept.{all_edges}
use Rattle.policy_text.proofs.ReadBack.{cert_back}
use Rattle.policy_text.proofs.TextsKept.{labels_below, text_kept}
use Rattle.policy_text.specs.PolicyLines.{cert_text}
use Rattle.policy_text.specs.Writable.{IsWritableCert}
use Rattle.text_commands.proofs.CertEnds.{is_among, least_ends}
use Rattle.text_commands.proofs.OneAnswer.{labelled_one, policy_one, system_one}
use Rattle.text_commands.proofs.Turning.{then_ok, turn_read}

-- ---- labels of objects are labels of the policy, below the limit

module _ (objects : List (List ℕ × ℕ)) (P : ℕ → Type 0) where
  of_object : (os : List (List ℕ × ℕ)) (name : List ℕ) (n : ℕ) → All (λ o. P o.1) os
      → option_map (λ (o : List ℕ × ℕ). o.1) (find (λ o. bytes_eq o.0 name) os) ≡ Some n → P n
  of_object [] name n all is = absurd cc
  of_object (o ∷ os) name n all is = go (bytes_eq o.0 name) refl (λ h. of_object os name n (All-tail (λ o. P o.1) o os all) h)
    where
      go : (b : Bool) → bytes_eq o.0 name ≡ b
          → (option_map (λ (o : List ℕ × ℕ). o.1) (find (λ o. bytes_eq o.0 name) os) ≡ Some n → P n) → P n
      go true e rest =
          let found : ◌≡◌ {A = Option ℕ} (Some o.1) (Some n) = rw e at is in
          let same : o.1 ≡ n = cc in
          subst P same (All-head (λ o. P o.1) o os all)
      go false e rest = rest (rw e at is)

  of_label : (labels : List ℕ) (entries : List Entry) (n : ℕ) → All (λ o. P o.1) objects
      → map (λ k. Some k) labels ≡ map (λ entry. object_label objects entry.name) entries → is_among labels n ≡ true → P n
  of_label [] entries n all is among = absurd cc
  of_label (k ∷ labels) [] n all is among = absurd cc
  of_label (k ∷ labels) (entry ∷ entries) n all is among =
      let head : object_label objects entry.name ≡ Some k = cc in
      let tail : map (λ (k : ℕ). Some k) labels ≡ map (λ entry. object_label objects entry.name) entries = cc in
      go (k == n) refl head (λ h. of_label labels entries n all tail h)
    where
      go : (b : Bool) → (k == n) ≡ b → object_label objects entry.name ≡ Some k → (is_among labels n ≡ true → P n) → P n
      go true e here rest = let same : k ≡ n = (Decides-eqb k n).0 e in subst P same (of_object objects entry.name k all here)
      go false e here rest = rest (rw e at among)

labels_there : (spec : Spec) (policy : Policy) (labels : List ℕ)
    → map (λ n. Some n) labels ≡ map (λ entry. object_label policy.objects entry.name) spec.entries
    → length labels ≡ length spec.entries
labels_there spec policy labels is = search (rules, length-map)

-- ---- certificates of a system and a policy, as their texts say

module _ (cdl text : List ℕ) (spec : Spec) (allowed : Policy) (labels : Labels) (system : capdl.Text cdl spec)
    (read : IsPolicyText text allowed) (labelled : IsLabelling spec allowed (Ok labels))
    (edges : List Edge) (certificate : IsCertificate spec labels.by_object edges) where
  abbrev IsFine : ℕ → Type 0
  IsFine n = (is_some (label_name allowed.labels n) ≡ true) × (n < 8192)

  fine : (n : ℕ) → is_among labels.by_object n ≡ true → IsFine n
  fine n among = (
    of_label allowed.objects (λ n. is_some (label_name allowed.labels n) ≡ true) labels.by_object spec.entries n
        (text_kept text allowed read).labelled labelled among,
    of_label allowed.objects (λ n. n < 8192) labels.by_object spec.entries n (labels_below text allowed read) labelled among,
  )

  ends : (e : Edge) → has edges e ≡ true → IsFine e.from × IsFine e.to
  ends e h =
      let among = least_ends spec labels.by_object (kept_text cdl spec system) (labels_there spec allowed labels.by_object
      labelled) edges certificate.least e.from e.authority e.to h in
      (fine e.from among.0, fine e.to among.1)

  pub writable : IsWritableCert allowed edges
  writable = record {
    labelled = record {
      from = all_edges (λ e. is_some (label_name allowed.labels e.from) ≡ true) edges (λ e h. (ends e h).0.0);
      to = all_edges (λ e. is_some (label_name allowed.labels e.to) ≡ true) edges (λ e h. (ends e h).1.0);
    };
    small = all_edges (λ e. (e.from < 2 ^ 32) × (e.to < 2 ^ 32)) edges (λ e h. let f = (ends e h).0.1 in let t = (ends e h).1.1 in
        (omega (arith, f), omega (arith, t)));
    order = certificate.sorted;
    edges = certificate.few;
    bytes = short;
  }
    where
      short : length (cert_text edges) ≤ 67108864
      short = cert_short edges (λ e h. ((ends e h).0.1, (ends e h).1.1)) certificate.few

  pub text_short : length (cert_text edges) ≤ 67108864
  text_short = writable.bytes

  pub text_back : IsCertText allowed (cert_text edges) edges
  text_back = cert_back allowed edges writable

-- ---- over contents

module _ (m : Contents) (old new later last : List ℕ → ℕ) (cdl policy : List ℕ) (edges : List Edge) where
  -- what certify read and found
  record IsCertificateRead : Type 0 where
    spec : Spec
    allowed : Policy
    labels : Labels
    system : IsSystem m old new cdl (Ok spec)
    read : IsPolicy m old new policy (Ok allowed)
    labelled : IsLabelling spec allowed (Ok labels)
    certificate : IsCertificate spec labels.by_object edges

  certificate_read : IsCertified m old new cdl policy (Ok (Certified edges)) → IsCertificateRead
  certificate_read certified = search (rules, then_ok)

  -- what certify answers, told of the system, the policy and the labels that are read in other calls
  certificate_of : (spec : Spec) (allowed : Policy) (labels : Labels) → IsCertificateRead
      → IsSystem m later last cdl (Ok spec) → IsPolicy m later last policy (Ok allowed)
      → IsLabelling spec allowed (Ok labels) → IsCertificate spec labels.by_object edges
  certificate_of spec allowed labels c system read labelled =
      let specs = system_one m old new later last cdl (Ok c.spec) (Ok spec) tt tt c.system system in
      let policies = policy_one m old new later last policy (Ok c.allowed) (Ok allowed) tt tt c.read read in
      let spec_same : c.spec ≡ spec = cc in
      let policy_same : c.allowed ≡ allowed = cc in
      let mine : IsLabelling spec allowed (Ok c.labels) = search (rules) in
      let one = labelled_one m old new later last spec allowed policy (Ok c.labels) (Ok labels) tt tt mine labelled in
      let labels_same : c.labels ≡ labels = cc in
      subst (λ z. IsCertificate z labels.by_object edges) spec_same
      (subst (λ (z : Labels). IsCertificate c.spec z.by_object edges) labels_same c.certificate)

  pub certificate_back : (cert : List ℕ) (allowed : Policy) → IsCertified m old new cdl policy (Ok (Certified edges))
      → IsPolicy m later last policy (Ok allowed) → Holds m cert (cert_text edges)
      → IsCert m later last allowed cert (Ok edges)
  certificate_back cert allowed certified read held =
      let c = certificate_read certified in
      let policies = policy_one m old new later last policy (Ok c.allowed) (Ok allowed) tt tt c.read read in
      let same : c.allowed ≡ allowed = cc in
      let labelled : IsLabelling c.spec allowed (Ok c.labels) = subst (λ z. IsLabelling c.spec z (Ok c.labels)) same c.labelled in
      let system = turn_read tell_text capdl.IsRead cdl m old new c.spec c.system in
      let text = turn_read tell_text IsPolicyRead policy m later last allowed read in
      inl (
        cert_text edges,
        (text_short system.0 text.0 c.spec allowed c.labels system.1 text.1 labelled edges c.certificate, held),
        text_back system.0 text.0 c.spec allowed c.labels system.1 text.1 labelled edges c.certificate,
      )

  pub certificate_decides : (cert other : List ℕ) (labels : names.LabelNames)
      → IsCertified m old new cdl policy (Ok (Certified edges)) → Holds m cert (cert_text edges)
      → IsChecked m later last cdl policy other (Ok (Checked Yes labels))
      → IsChecked m later last cdl policy cert (Ok (Checked Yes labels))
  certificate_decides cert other labels certified held checked =
      let (spec, system, after) = then_ok (Checked Yes labels) checked in
      let (allowed, read, given) = then_ok (Checked Yes labels) after in
      let (others, _, labelling) = then_ok (Checked Yes labels) given in
      let (numbers, labelled, (verdict, is, judged)) = then_ok (Checked Yes labels) labelling in
      let least = certificate_of spec allowed numbers (certificate_read certified) system read labelled in
      let yes : verdict ≡ Yes = cc in
      let names_same : Checked Yes labels ≡ Checked Yes allowed.labels = cc in
      let valid : Valid spec numbers.by_object allowed.edges others = search (rules) in
      inl (
        spec,
        system,
        inl (
          allowed,
          read,
          inl (
            edges,
            certificate_back cert allowed certified read held,
            inl (
              numbers,
              labelled,
              (
                Yes,
                names_same,
                least_valid spec numbers.by_object edges least.least allowed.edges others valid,
              ),
            ),
          ),
        ),
      )
