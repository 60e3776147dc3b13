-- Of files that hold the texts that are written of a build, `check` says yes.
use Rattle.std.proofs.Common.{rules}
use Rattle.camkes_tool.proofs.Common.{Answer, Build, Check, Command, Contents, Edge, Err, Fault, Fits, HoldTexts, Holds, HoldsAsRead, InputFault, IsCert, IsCertText, IsChecked, IsInput, IsLabelling, IsPolicy, IsPolicyText, IsStatus}
use Rattle.camkes_tool.proofs.Common.{IsStatusOfTexts, IsSystem, IsTold, IsTrioValid, List, None, NoneRose, Ok, Option, Outcome, Policy, Rose, Sink, Some, Spec, Tells, Text, ap, arith, canonical, cert_text, cond, inl, inr, is_well}
use Rattle.camkes_tool.proofs.Common.{length, no_fault_of_text, policy_text, same_Some, subst, sym, tell_text, true, ℕ, ◌∙◌, ◌≡◌, ◌≤◌, ◌⊎◌}
use Rattle.std.proofs.lemmas.Bool.{ltb-false}
use Rattle.std.specs.FinMap.{get}
use Rattle.camkes_tool.specs.ReadBack.{AreReadBack}
use Rattle.cam_base.specs.declared.error.Refused.TheVariants as refused
use Rattle.camkes_tool.proofs.Accepting.{labels_stand, none_some}
use Rattle.text_commands.proofs.Turning.{then_ok}
use Rattle.camkes_tool.proofs.Statuses.{exact_status}
use Rattle.camkes_tool.proofs.TrioValid.{trio_valid}
use Rattle.camkes_tool.proofs.SpecBack.{spec_back}
use Rattle.camkes_tool.proofs.PolicyBack.{policy_read}
use Rattle.camkes_tool.proofs.CertBack.{cert_read}
use Rattle.camkes_tool.proofs.HeldAsRead.{as_read}

module _ (m : Contents) (old new : List ℕ → ℕ) where
  -- ---- inputs

  same_bytes : (name bytes other : List ℕ) → get m name ≡ Some other → Holds m name bytes → bytes ≡ other
  same_bytes name bytes other is h = same_Some bytes other (sym h ∙ is)

  -- a file that is there and short is no fault
  no_fault : (name bytes : List ℕ) → get m name ≡ Some bytes → length bytes ≤ 67108864 → (fault : InputFault) (file : List ℕ)
      → IsInput m old new name (Err (Fault fault file)) → ⊥
  no_fault name bytes is short fault file (named, inl (told, absent)) = let two : ◌≡◌ {A = Option (List ℕ)} None (Some bytes) =
      sym absent ∙ is in cc
  no_fault name bytes is short fault file (named, inr (told, (other, held, long))) = search (rules, same_Some)

  module _ (cdl policy cert : List ℕ) (b : Build) (back : AreReadBack b) (held : HoldsAsRead b) (trio : IsTrioValid b)
      (capdl_here : get m cdl ≡ Some (canonical b.spec)) (policy_here : get m policy ≡ Some (policy_text b.policy))
      (cert_here : get m cert ≡ Some (cert_text b.cert)) where
    short_capdl : length (canonical b.spec) ≤ 67108864
    short_capdl = ltb-false 67108864 (length (canonical b.spec)) back.spec.text.few

    -- ---- what is read

    spec_read : (spec : Spec) → IsSystem m old new cdl (Ok spec) → Text (canonical b.spec) spec
    spec_read spec turn = search (rules, then_ok, same_bytes)

    allowed_read : (allowed : Policy) → IsPolicy m old new policy (Ok allowed) → IsPolicyText (policy_text b.policy) allowed
    allowed_read allowed turn = search (rules, then_ok, same_bytes)

    edges_read : (allowed : Policy) (edges : List Edge) → IsCert m old new allowed cert (Ok edges)
        → IsCertText allowed (cert_text b.cert) edges
    edges_read allowed edges turn = search (rules, then_ok, same_bytes)

    well : (outcome : Outcome) → IsChecked m old new cdl policy cert (Ok outcome) → is_well outcome ≡ true
    well outcome checked = search (rules, then_ok, spec_read, allowed_read, edges_read)

    -- ---- no fault is told

    capdl_right : (fault : InputFault) (file : List ℕ) → IsSystem m old new cdl (Err (Fault fault file)) → ⊥
    capdl_right fault file (inl (bytes, input, told)) =
        let same = same_bytes cdl bytes (canonical b.spec) capdl_here input.1 in
        no_fault_of_text bytes b.spec told.1.0 (subst (λ z. Text z b.spec) (sym same) back.spec.text) told.1.1
    capdl_right fault file (inr (Fault f g, input, is)) = no_fault cdl (canonical b.spec) capdl_here short_capdl f g input
    capdl_right fault file (inr (e, input, is)) = absurd cc

    policy_right : (fault : InputFault) (file : List ℕ) → IsPolicy m old new policy (Err (Fault fault file)) → ⊥
    policy_right fault file (inl (bytes, input, told)) = search (rules, same_bytes, none_some)
    policy_right fault file (inr (Fault f g, input, is)) = no_fault policy (policy_text b.policy) policy_here
        back.policy.writable.bytes f g input
    policy_right fault file (inr (e, input, is)) = absurd cc

    cert_right : (allowed : Policy) → IsPolicyText (policy_text b.policy) allowed → (fault : InputFault) (file : List ℕ)
        → IsCert m old new allowed cert (Err (Fault fault file)) → ⊥
    cert_right allowed text fault file (inl (bytes, input, told)) = search (rules, same_bytes, none_some)
    cert_right allowed text fault file (inr (Fault f g, input, is)) = no_fault cert (cert_text b.cert) cert_here
        back.cert.writable.bytes f g input
    cert_right allowed text fault file (inr (e, input, is)) = absurd cc

    labels_right : (spec : Spec) (allowed : Policy) → Text (canonical b.spec) spec → IsPolicyText (policy_text b.policy) allowed
        → (fault : InputFault) (file : List ℕ)
        → IsTold tell_text policy (IsLabelling spec allowed) (Err (Fault fault file)) → ⊥
    labels_right spec allowed capdl text fault file told =
        labels_stand b told.1.0 trio
        (subst (λ z. IsLabelling z b.policy (Err (refused.Fault told.1.0))) (back.spec.only spec capdl)
        (subst (λ z. IsLabelling spec z (Err (refused.Fault told.1.0))) (back.policy.only allowed text) told.1.1))

    all_right : (fault : InputFault) (file : List ℕ) → IsChecked m old new cdl policy cert (Err (Fault fault file)) → ⊥
    all_right fault file (inr (Fault f g, system, is)) = capdl_right f g system
    all_right fault file (inr (e, system, is)) = absurd cc
    all_right fault file (inl (spec, system, inr (Fault f g, text, is))) = policy_right f g text
    all_right fault file (inl (spec, system, inr (e, text, is))) = absurd cc
    all_right fault file (inl (spec, system, inl (allowed, text, inr (Fault f g, read, is)))) =
        cert_right allowed (allowed_read allowed text) f g read
    all_right fault file (inl (spec, system, inl (allowed, text, inr (e, read, is)))) = absurd cc
    all_right fault file (inl (spec, system, inl (allowed, text, inl (edges, read, inr (Fault f g, labelled, is))))) =
        labels_right spec allowed (spec_read spec system) (allowed_read allowed text) f g labelled
    all_right fault file (inl (spec, system, inl (allowed, text, inl (edges, read, inr (e, labelled, is))))) = absurd cc
    all_right fault file (inl (spec, system, inl (allowed, text, inl (edges, read, inl (labels, labelled, said))))) = absurd said

    -- ---- the status

    status_is : (status : ℕ) → IsStatusOfTexts (IsChecked m old new cdl policy cert) status → (status ≡ 0) ⊎ (status ≡ 6)
    status_is status (inl (outcome, asked, e)) = inl (e ∙ ap (λ z. cond z 0 3) (well outcome asked))
    status_is status (inr (inl (fault, file, asked, e))) = absurd (all_right fault file asked)
    status_is status (inr (inr six)) = inr six

pub texts_accepted : (contents : Contents) (before now : List ℕ → ℕ) (cdl policy cert : List ℕ) (asked : Option Command)
    (answer : Answer) (status : ℕ) (old new : Sink) (m n : ℕ)
    → asked ≡ Some (Check cdl policy cert) → HoldTexts contents cdl policy cert → NoneRose before now → ¬ Rose m n
    → Fits asked contents before now answer → Tells answer status old new m n → (status ≡ 0) ⊎ (status ≡ 6)
texts_accepted contents before now cdl policy cert asked answer status old new m n is holds none kept fits tells =
    let b = holds.build in
    let root = holds.root in
    let sources = holds.sources in
    let back : AreReadBack b = search (rules, spec_back, policy_read, cert_read) in
    let exact = exact_status contents asked before now answer status old new m n fits tells none kept in
    status_is contents before now cdl policy cert b back (as_read root sources b holds.system.made)
    (trio_valid root sources b holds.system.made) holds.system.capdl holds.system.allowed holds.certificate status
    (subst (λ z. IsStatus contents before now z status) is exact)
