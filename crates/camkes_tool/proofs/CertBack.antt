-- Certificates of builds are read back under their policies.
use Rattle.camkes_tool.proofs.BackCommon.{AreFacts, Build, Contents, Edge, Images, IsBuildOf, IsCertReadBack, IsFlat, IsIn, IsMade, IsSmall, IsWritableCert, List, Ok, Refused, Result, Source, Tables, TextFault, ap, arith, build_facts, cert_back}
use Rattle.camkes_tool.proofs.BackCommon.{cert_short, cert_text, certs_one, flat_of, get_or, has_in, images_beside, in_has, in_place, is_some, label_name, length, made_connected, refl, slice_get-get_or, source_tables, true, ℕ, ◌<◌, ◌∙◌, ◌≡◌, ◌≤◌}
use Rattle.adl_meaning.proofs.SoundNames.{one_assembly}
use Rattle.flat_laws.proofs.Small.{flat_small}
use Rattle.camkes_tool.proofs.EdgeCounts.{few_certified, few_edges}
use Rattle.camkes_tool.proofs.Labelled.{IsLabel, edge_labels, label_small, named_at}

module _ {contents : Contents} (s : Source) (images : Images) (facts : AreFacts contents s images) where
  abbrev t : Tables
  t = source_tables s

  flat_is : IsFlat s (flat_of s)
  flat_is = (made_connected s images facts).flat

  pub small_is : IsSmall (flat_of s)
  small_is = flat_small s facts.faultless.names facts.faultless.flat

  module _ (b : Build) (made : IsMade s images b.spec b.policy b.cert b.map) where
    pub policy_few : length b.policy.edges ≤ 200000
    policy_few = let one = one_assembly s facts.faultless.names in
        few_edges t one.0 b.policy.edges one.1 facts.edge made.edges made.sorted

    cert_few : length b.cert ≤ 262144
    cert_few =
        let a = policy_few in
        let c = few_certified t flat_is b.policy.edges b.cert made.edges made.certified made.cert_sorted in
        let d = small_is.domains in
        omega (arith, a, c, d)

    labels_in : (e : Edge) → IsIn e b.cert → IsLabel t e.from × IsLabel t e.to
    labels_in e i = edge_labels s facts.faultless.names facts.spelled e ((made.certified e).0 (in_has e b.cert i))

    small_in : (e : Edge) → IsIn e b.cert → (e.from < 8192) × (e.to < 8192)
    small_in e i = let l = labels_in e i in (label_small t refl small_is e.from l.0, label_small t refl small_is e.to l.1)

    at_in : (k : ℕ) (e : Edge) → k < length b.cert → IsIn (get_or b.cert k e) b.cert
    at_in k e l = in_place (get_or b.cert k e) b.cert k (slice_get-get_or b.cert k e l)

    named : (l : ℕ) → IsLabel t l → is_some (label_name b.policy.labels l) ≡ true
    named l w = ap (λ z. is_some (label_name z l)) made.labels ∙ named_at t refl l w

    pub cert_writable : IsWritableCert b.policy b.cert
    cert_writable = record {
      labelled = record {
        from = λ k e l. named (get_or b.cert k e).from (labels_in (get_or b.cert k e) (at_in k e l)).0;
        to = λ k e l. named (get_or b.cert k e).to (labels_in (get_or b.cert k e) (at_in k e l)).1;
      };
      small = λ k e l. let x = small_in (get_or b.cert k e) (at_in k e l) in let f = x.0 in let g = x.1 in
          (omega (arith, f), omega (arith, g));
      order = made.cert_sorted;
      edges = cert_few;
      bytes = cert_short b.cert (λ e h. small_in e (has_in e b.cert h)) cert_few;
    }

abbrev same_answer : List Edge → Result (List Edge) (Refused TextFault)
same_answer e = Ok e

one_inside : (d e : List Edge) → same_answer d ≡ same_answer e → d ≡ e
one_inside d e h = cc

pub cert_read : (root : List ℕ) (contents : Contents) (b : Build) → IsBuildOf root contents b → IsCertReadBack b
cert_read root contents b is =
    let w = cert_writable b.meaning.source (images_beside contents b.meaning.source) (build_facts root contents b is) b is.made in
    let text = cert_back b.policy b.cert w in
    record {
      writable = w;
      text = text;
      only = λ other t. one_inside other b.cert (certs_one b.policy (cert_text b.cert) (Ok other) (Ok b.cert) tt tt t text);
    }
