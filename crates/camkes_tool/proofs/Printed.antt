-- What `certify`, `sections` and `audit` leave with status 0.
use Rattle.std.proofs.Common.{rules}
use Rattle.camkes_tool.proofs.Common.{Answer, Audit, Certify, Command, Contents, Edge, Fits, FitsTexts, HoldSystem, Holds, InAll, InputError, IsAudited, IsCertificateWritten, IsCertified}
use Rattle.camkes_tool.proofs.Common.{IsLeastOf, IsReportOf, IsReportWritten, IsTableOf, IsTableWritten, IsTabled, LabelNames, List, NoMemory, Ok, Option, Outcome, ReadFault, Refused, Result, SaysYes, Sections, Sink, Some, Spec, Tells, Text}
use Rattle.camkes_tool.proofs.Common.{Told, [], appended, cert_text, inr, subst, text_of, ℕ, ◌≡◌}
use Rattle.cap_audit.specs.declared.report.AuditReport.{AuditReport}
use Rattle.sect_table.specs.Elf.{Elf}
use Rattle.std.specs.Prelude.{codes}
use Rattle.sect_table.specs.declared.image.Image.{Image}
use Rattle.text_commands.proofs.AuditBack.{audit_replayed, audit_shown}
use Rattle.text_commands.proofs.CertBack.{certificate_decides, text_back}
use Rattle.text_commands.proofs.TableBack.{table_back}
use Rattle.text_commands.proofs.Turning.{then_ok}
use Rattle.text_commands.specs.Decisions.{HasReport, IsCertificate}
use Rattle.text_commands.specs.declared.outcome.Outcome.TheVariants as found
use Rattle.camkes_tool.proofs.OfBuild.{least_own, report_listed}
use Rattle.camkes_tool.proofs.Safe.{policy_read, system_read}
use Rattle.camkes_tool.proofs.Written.{whole_status, zero_not_five}

abbrev HasText : Contents → List ℕ → Spec → Type 0
HasText m cdl spec = (bytes : List ℕ) × Holds m cdl bytes × Text bytes spec

module _ (m : Contents) (before now : List ℕ → ℕ) where
  -- ---- certificates

  is_certified : (cdl policy : List ℕ) (o : Outcome) → IsCertified m before now cdl policy (Ok o)
      → (edges : List Edge) × (o ≡ found.Certified edges)
  is_certified cdl policy o certified = search (rules, then_ok)

  module _ (cdl policy : List ℕ) (edges : List Edge) (certified : IsCertified m before now cdl policy
      (Ok (found.Certified edges))) where
    other_says : (cert : List ℕ) → Holds m cert (cert_text edges) → ((other : List ℕ) × SaysYes m cdl policy other)
        → SaysYes m cdl policy cert
    other_says cert held (other, (names, checked)) =
        (names, certificate_decides m before now (λ file. 0) (λ file. 0) cdl policy edges cert other names certified held checked)

    least_of : IsLeastOf m cdl policy edges
    least_of =
        let (spec, system, after) = then_ok (found.Certified edges) certified in
        let (allowed, read, given) = then_ok (found.Certified edges) after in
        let (labels, labelled, (cert, is, certificate)) = then_ok (found.Certified edges) given in
        let same : cert ≡ edges = cc in
        let least : IsCertificate spec labels.by_object edges = search (rules) in
        let held : HoldSystem m cdl policy spec allowed labels = search (rules, system_read, policy_read) in
        search (rules, text_back, least_own, other_says)

  -- ---- tables

  is_tabled : (elf : List ℕ) (o : Outcome) → IsTabled m before now elf (Ok o) → (image : Image) × (o ≡ found.Tabled image)
  is_tabled elf o tabled = let (image, turn, is) = then_ok o tabled in (image, is)

  module _ (elf : List ℕ) (image : Image) (tabled : IsTabled m before now elf (Ok (found.Tabled image))) where
    table_of : IsTableOf m elf image
    table_of =
        let (made, turn, is) = then_ok (found.Tabled image) tabled in
        let (bytes, input, told) = then_ok made turn in
        let same : made ≡ image = cc in
        record {
          bytes = bytes;
          held = input.1;
          image_is = subst (λ z. Elf (codes "image") bytes z) same told;
          read_back = λ are file name answer read. table_back m before now elf bytes image tabled input.1 are file
              name answer read;
        }

  -- ---- reports

  is_audited : (cdl policy : List ℕ) (o : Outcome) → IsAudited m before now cdl policy (Ok o)
      → (report : AuditReport) × (spec : Spec) × (names : LabelNames) × (o ≡ found.Audited report spec names)
  is_audited cdl policy o audited = search (rules, then_ok)

  module _ (cdl policy : List ℕ) (report : AuditReport) (spec : Spec) (names : LabelNames)
      (audited : IsAudited m before now cdl policy (Ok (found.Audited report spec names))) where
    report_of : IsReportOf m cdl policy report spec names
    report_of =
        let (read_as, system, after) = then_ok (found.Audited report spec names) audited in
        let (allowed, read, given) = then_ok (found.Audited report spec names) after in
        let (labels, labelled, (shown, is, has)) = then_ok (found.Audited report spec names) given in
        let specs : read_as ≡ spec = cc in
        let reports : shown ≡ report = cc in
        let named : names ≡ allowed.labels = cc in
        let mine : HasReport spec labels.by_object report = search (rules) in
        let held : HoldSystem m cdl policy spec allowed labels = search (rules, system_read, policy_read) in
        record {
          allowed = allowed;
          labels = labels;
          held = held;
          named = named;
          reached = mine.shown;
          of_build = λ root sources b holds.
              report_listed m cdl policy root sources b holds spec allowed labels held report.edges report.steps
              names named mine.sorted mine.shown;
          replayed = λ few first last file answer held is run.
              let made = audit_replayed m before now first last cdl policy report spec names audited file answer few
              held is run in
              (made.0, made.1, tt);
          shown = λ few first last l a x has. audit_shown m before now first last cdl policy report spec names audited
              few l a x has;
        }

module _ (told : Contents → Type 0) (some : (c : Contents) × told c) (before now : List ℕ → ℕ) (status : ℕ) (old new : Sink)
    (m n : ℕ) (zero : status ≡ 0) where
  -- with status 0 a command over texts tells the whole of what it found
  record IsTold (Asked : Contents → Result Outcome InputError → Type 0) : Type 0 where
    outcome : Outcome
    fits : InAll told (λ c. Asked c (Ok outcome))
    whole : new ≡ appended old 0 (text_of outcome)

  told_whole : (Asked : Contents → Result Outcome InputError → Type 0) (answer : Answer)
      → InAll told (λ c. FitsTexts (Asked c) answer) → Tells answer status old new m n → IsTold Asked
  told_whole Asked (Told outcome) fits tells = search (rules, zero_not_five)
  told_whole Asked (Refused file fault) fits tells = let e = whole_status (Refused file fault) status old new m n tells zero in
      absurd cc
  told_whole Asked (ReadFault file) fits tells = let e = whole_status (ReadFault file) status old new m n tells zero in absurd cc
  told_whole Asked NoMemory fits tells = let e = whole_status NoMemory status old new m n tells zero in absurd cc
  told_whole Asked _ fits tells = absurd (fits some.0 some.1)

  asked_as : (asked : Option Command) (command : Command) (answer : Answer) → asked ≡ Some command
      → InAll told (λ c. Fits asked c before now answer) → InAll told (λ c. Fits (Some command) c before now answer)
  asked_as asked command answer is fits = λ c t. subst (λ z. Fits z c before now answer) is (fits c t)

  pub certificate_written : (cdl policy : List ℕ) (asked : Option Command) (answer : Answer) → asked ≡ Some (Certify cdl policy)
      → InAll told (λ c. Fits asked c before now answer) → Tells answer status old new m n
      → IsCertificateWritten told cdl policy old new
  certificate_written cdl policy asked answer is fits tells =
      let all = told_whole (λ c. IsCertified c before now cdl policy) answer (asked_as asked (Certify cdl policy) answer is
      fits) tells in
      let one = is_certified some.0 before now cdl policy all.outcome (all.fits some.0 some.1) in
      record {
        edges = one.0;
        whole = subst (λ o. new ≡ appended old 0 (text_of o)) one.1 all.whole;
        least = λ c t. least_of c before now cdl policy one.0 (subst (λ o. IsCertified c before now cdl policy (Ok o)) one.1
            (all.fits c t));
      }

  pub table_written : (elf : List ℕ) (asked : Option Command) (answer : Answer) → asked ≡ Some (Sections elf)
      → InAll told (λ c. Fits asked c before now answer) → Tells answer status old new m n
      → IsTableWritten told elf old new
  table_written elf asked answer is fits tells =
      let all = told_whole (λ c. IsTabled c before now elf) answer (asked_as asked (Sections elf) answer is fits) tells in
      let one = is_tabled some.0 before now elf all.outcome (all.fits some.0 some.1) in
      record {
        image = one.0;
        whole = subst (λ o. new ≡ appended old 0 (text_of o)) one.1 all.whole;
        of_file = λ c t. table_of c before now elf one.0 (subst (λ o. IsTabled c before now elf (Ok o)) one.1 (all.fits c t));
      }

  pub report_written : (cdl policy : List ℕ) (asked : Option Command) (answer : Answer) → asked ≡ Some (Audit cdl policy)
      → InAll told (λ c. Fits asked c before now answer) → Tells answer status old new m n
      → IsReportWritten told cdl policy old new
  report_written cdl policy asked answer is fits tells =
      let all = told_whole (λ c. IsAudited c before now cdl policy) answer (asked_as asked (Audit cdl policy) answer is
      fits) tells in
      let one = is_audited some.0 before now cdl policy all.outcome (all.fits some.0 some.1) in
      record {
        report = one.0;
        spec = one.1;
        names = one.2;
        whole = subst (λ o. new ≡ appended old 0 (text_of o)) one.3 all.whole;
        of_files = λ c t. report_of c before now cdl policy one.0 one.1 one.2
            (subst (λ o. IsAudited c before now cdl policy (Ok o)) one.3 (all.fits c t));
      }
