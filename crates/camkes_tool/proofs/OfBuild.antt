-- Where the capDL and the policy that are read are written of a build, an audit has the edges that are listed of its source, and
-- the least certificate is the build's.
use Rattle.std.proofs.Common.{rules}
use Rattle.camkes_tool.proofs.Common.{Build, Contents, Edge, HoldBuild, HoldSystem, IsListText, IsReadAs, LabelNames, List, Policy, Spec, Step, ap, apart_lines, build_sound, object_labels, one_truth}
use Rattle.camkes_tool.proofs.Common.{same_Some, subst, sym, ℕ, ◌∙◌, ◌≡◌}
use Rattle.cap_model.proofs.TableMembers.{one_table}
use Rattle.cap_model.specs.Tables.{IsSorted, has}
use Rattle.cap_model.specs.declared.object_labels.Labels.{Labels}
use Rattle.camkes_tool.proofs.ListFaults.{none_listed}
use Rattle.camkes_tool.proofs.PolicyReached.{policy_reached}
use Rattle.cap_audit.specs.Reports.{IsReport}
use Rattle.least_cert.proofs.LeastKeeps.{least_valid, valid_keeps}
use Rattle.least_cert.specs.LeastCertificate.{IsLeast}
use Rattle.camkes_tool.proofs.SpecBack.{spec_back}
use Rattle.camkes_tool.proofs.HeldAsRead.{read_labels}
use Rattle.camkes_tool.proofs.PolicyBack.{policy_read}

module _ (m : Contents) (cdl policy root : List ℕ) (sources : Contents) (b : Build)
    (holds : HoldBuild m cdl policy root sources b)
    (spec : Spec) (allowed : Policy) (labels : Labels) (held : HoldSystem m cdl policy spec allowed labels) where
  read : IsReadAs b spec allowed labels
  read = search (rules, same_Some)

  of_own : (P : Spec → List ℕ → Type 0) → P spec labels.by_object → P b.spec (object_labels b).by_object
  of_own P p =
      subst (λ z. P z (object_labels b).by_object) ((spec_back root sources b holds.made).only spec read.capdl)
      (subst (λ z. P spec z) (sym (read_labels root sources b holds.made spec allowed labels read)) p)

  -- ---- audits

  report_edges : (edges : List Edge) (steps : List Step) → IsSorted edges → IsReport spec labels.by_object edges steps
      → edges ≡ b.policy.edges
  report_edges edges steps sorted report =
      let mine : IsReport b.spec (object_labels b).by_object edges steps =
      of_own (λ spec labels. IsReport spec labels edges steps) report in
      let own = policy_reached root sources b holds.made in
      one_table edges b.policy.edges sorted holds.made.made.sorted (λ e.
      one_truth (has edges e) (has b.policy.edges e)
      (λ h. (own e.from e.authority e.to).1 ((mine.reached e.from e.authority e.to).0 h))
      (λ h. (mine.reached e.from e.authority e.to).1 ((own e.from e.authority e.to).0 h)))

  pub report_listed : (edges : List Edge) (steps : List Step) (names : LabelNames) → names ≡ allowed.labels → IsSorted edges
      → IsReport spec labels.by_object edges steps
      → IsListText root sources (apart_lines names edges)
  report_listed edges steps names named sorted report =
      let made = holds.made.made in
      let own : allowed ≡ b.policy = (policy_read root sources b holds.made).only allowed read.policy_is in (
        record { names = b.policy.labels; edges = b.policy.edges },
        record {
          source = b.meaning.source;
          loaded = holds.made.meant.loaded;
          none = none_listed root sources b holds.made;
          listed = record { names = made.labels; edges = made.edges; sorted = made.sorted };
        },
        ap (λ z. apart_lines z edges) (named ∙ ap (λ (p : Policy). p.labels) own) ∙ ap (λ z. apart_lines b.policy.labels z)
            (report_edges edges steps sorted report),
      )

  -- ---- certificates

  pub least_own : (edges : List Edge) → IsSorted edges → IsLeast spec labels.by_object edges → edges ≡ b.cert
  least_own edges sorted least =
      let mine : IsLeast b.spec (object_labels b).by_object edges = of_own (λ spec labels. IsLeast spec labels edges) least in
      let sound = build_sound root sources b holds.made in
      one_table edges b.cert sorted holds.made.made.cert_sorted (λ e.
      one_truth (has edges e) (has b.cert e)
      (λ h. mine.only e.from e.authority e.to h b.cert (valid_keeps b.spec (object_labels b).by_object b.policy.edges b.cert
      sound.valid))
      (λ h. sound.least b.policy.edges edges (least_valid b.spec (object_labels b).by_object edges mine b.policy.edges b.cert
      sound.valid) e.from e.authority e.to h))
