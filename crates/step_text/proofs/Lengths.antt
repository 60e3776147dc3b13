-- How long the text of steps is, where names are names and numbers fit 64 bits.
use Rattle.std.proofs.Common.{rules}
use Rattle.step_text.proofs.Common.{All, All-head, All-tail, Bool, Entry, IsReadable, List, None, Option, Rights, Some, Spec, Step, [], all_at, arith, call_line, codes, copy_line, decimal, false, grant_line, is_name}
use Rattle.step_text.proofs.Common.{length, length-append, list_all, name_at, number_line, numbers_line, refl, reply_line, rights_field, slice_get, step_line, steps_text, thread_line, true, ℕ, ◌*◌, ◌<◌, ◌^◌}
use Rattle.step_text.proofs.Common.{◌∷◌, ◌≡◌, ◌≤◌}
use Rattle.std.proofs.Math.Nat.{mul-suc}
use Rattle.cap_machine.specs.declared.step.Step.TheVariants as steps
use Rattle.cam_base.proofs.Naming.{name_short}
use Rattle.cam_base.proofs.ShortTexts.{all_short, decimal_short}

-- ---- fields

rights_short : (r : Rights) → length (rights_field r) ≤ 4
rights_short r = search (rules)

-- ---- lines

module _ (spec : Spec) (named : list_all (λ entry. is_name entry.name) spec.entries ≡ true) where
  at_short : (t : ℕ) → length (name_at spec t) ≤ 127
  at_short t = go (slice_get spec.entries t) refl
    where
      go : (o : Option Entry) → slice_get spec.entries t ≡ o → length (name_at spec t) ≤ 127
      go None e = rw e (omega arith)
      go (Some entry) e = rw e (name_short entry.name (all_at (λ (x : Entry). is_name x.name) spec.entries t entry named e))

  of_thread : (word : List ℕ) (t : ℕ) → length word ≤ 10 → length (thread_line word (name_at spec t)) ≤ 330
  of_thread word t w = let s = all_short (10 ∷ 127 ∷ 1 ∷ []) (word ∷ name_at spec t ∷ codes "\n" ∷ [])
      (w, (at_short t, (omega arith, tt))) in omega (arith, s)

  of_number : (word : List ℕ) (t i : ℕ) → length word ≤ 10 → i < 2 ^ 64 → length (number_line word (name_at spec t) i) ≤ 330
  of_number word t i w f =
      let s = all_short (10 ∷ 127 ∷ 1 ∷ 20 ∷ 1 ∷ []) (word ∷ name_at spec t ∷ codes " " ∷ decimal i ∷ codes "\n" ∷ [])
      (w, (at_short t, (omega arith, (decimal_short i f, (omega arith, tt))))) in
      omega (arith, s)

  of_numbers : (word : List ℕ) (t i j : ℕ) → length word ≤ 10 → i < 2 ^ 64 → j < 2 ^ 64
      → length (numbers_line word (name_at spec t) i j) ≤ 330
  of_numbers word t i j w f g =
      let s = all_short (10 ∷ 127 ∷ 1 ∷ 20 ∷ 1 ∷ 20 ∷ 1 ∷ []) (word ∷ name_at spec t ∷ codes " " ∷ decimal i ∷ codes " "
      ∷ decimal j ∷ codes "\n" ∷ [])
      (w, (at_short t, (omega arith, (decimal_short i f, (omega arith, (decimal_short j g, (omega arith, tt))))))) in
      omega (arith, s)

  of_copy : (word : List ℕ) (t i j : ℕ) (r : Rights) → length word ≤ 10 → i < 2 ^ 64 → j < 2 ^ 64
      → length (copy_line word (name_at spec t) i j r) ≤ 330
  of_copy word t i j r w f g =
      let s = all_short (10 ∷ 127 ∷ 1 ∷ 20 ∷ 1 ∷ 20 ∷ 1 ∷ 4 ∷ 1 ∷ []) (word ∷ name_at spec t ∷ codes " " ∷ decimal i ∷ codes " "
      ∷ decimal j ∷ codes " " ∷ rights_field r ∷ codes "\n" ∷ []) (
        w,
        (
          at_short t,
          (
            omega arith,
            (decimal_short i f, (omega arith, (decimal_short j g, (omega arith, (rights_short r, (omega arith, tt)))))),
          ),
        ),
      ) in
      omega (arith, s)

  of_reply : (t k : ℕ) (r : Rights) → k < 2 ^ 64 → length (reply_line (name_at spec t) k r) ≤ 330
  of_reply t k r f =
      let s = all_short (6 ∷ 127 ∷ 1 ∷ 20 ∷ 1 ∷ 4 ∷ 1 ∷ []) (codes "reply " ∷ name_at spec t ∷ codes " " ∷ decimal k ∷ codes " "
      ∷ rights_field r ∷ codes "\n" ∷ [])
      (omega arith, (at_short t, (omega arith, (decimal_short k f, (omega arith, (rights_short r, (omega arith, tt))))))) in
      omega (arith, s)

  of_call : (t i u j : ℕ) → i < 2 ^ 64 → j < 2 ^ 64 → length (call_line (name_at spec t) i (name_at spec u) j) ≤ 330
  of_call t i u j f g =
      let s = all_short (5 ∷ 127 ∷ 1 ∷ 20 ∷ 1 ∷ 127 ∷ 1 ∷ 20 ∷ 1 ∷ []) (codes "call " ∷ name_at spec t ∷ codes " " ∷ decimal i
      ∷ codes " " ∷ name_at spec u ∷ codes " " ∷ decimal j ∷ codes "\n" ∷ []) (
        omega arith,
        (
          at_short t,
          (
            omega arith,
            (decimal_short i f, (omega arith, (at_short u, (omega arith, (decimal_short j g, (omega arith, tt)))))),
          ),
        ),
      ) in
      omega (arith, s)

  of_grant : (t i u j k : ℕ) (r : Rights) → i < 2 ^ 64 → j < 2 ^ 64 → k < 2 ^ 64
      → length (grant_line (name_at spec t) i (name_at spec u) j k r) ≤ 330
  of_grant t i u j k r f g h =
      let s = all_short (6 ∷ 127 ∷ 1 ∷ 20 ∷ 1 ∷ 127 ∷ 1 ∷ 20 ∷ 1 ∷ 20 ∷ 1 ∷ 4 ∷ 1 ∷ [])
      (codes "grant " ∷ name_at spec t ∷ codes " " ∷ decimal i ∷ codes " " ∷ name_at spec u ∷ codes " " ∷ decimal j ∷ codes " "
      ∷ decimal k ∷ codes " " ∷ rights_field r ∷ codes "\n" ∷ []) (
        omega arith,
        (
          at_short t,
          (
            omega arith,
            (
              decimal_short i f,
              (
                omega arith,
                (
                  at_short u,
                  (
                    omega arith,
                    (
                      decimal_short j g,
                      (omega arith, (decimal_short k h, (omega arith, (rights_short r, (omega arith, tt))))),
                    ),
                  ),
                ),
              ),
            ),
          ),
        ),
      ) in
      omega (arith, s)

  step_short : (step : Step) → IsReadable spec step → length (step_line spec step) ≤ 330
  step_short (steps.Take t i j r) h = of_copy (codes "take ") t i j r (omega arith) h.1 h.2
  step_short (steps.Put t i j r) h = of_copy (codes "put ") t i j r (omega arith) h.1 h.2
  step_short (steps.Grant t i u j k r) h = of_grant t i u j k r h.2 h.3 h.4
  step_short (steps.Call t i u j) h = of_call t i u j h.2 h.3
  step_short (steps.Reply t None) h = of_thread (codes "reply ") t (omega arith)
  step_short (steps.Reply t (Some copy)) h = of_reply t copy.0 copy.1 h.1
  step_short (steps.SetCspace t i j) h = of_numbers (codes "setcspace ") t i j (omega arith) h.1 h.2
  step_short (steps.SetVspace t i j) h = of_numbers (codes "setvspace ") t i j (omega arith) h.1 h.2
  step_short (steps.Map t i j r) h = of_copy (codes "map ") t i j r (omega arith) h.1 h.2
  step_short (steps.Bind t i j) h = of_numbers (codes "bind ") t i j (omega arith) h.1 h.2
  step_short (steps.Drop t i) h = of_number (codes "drop ") t i (omega arith) h.1
  step_short (steps.Save t) h = of_thread (codes "save ") t (omega arith)
  step_short (steps.ReplyTo t i None) h = of_number (codes "replyto ") t i (omega arith) h.1
  step_short (steps.ReplyTo t i (Some copy)) h = of_copy (codes "replyto ") t i copy.0 copy.1 (omega arith) h.1 h.2

  pub steps_short : (list : List Step) → All (IsReadable spec) list → length (steps_text spec list) ≤ 330 * length list
  steps_short [] all = omega arith
  steps_short (step ∷ list) all =
      let line = step_short step (All-head (IsReadable spec) step list all) in
      let rest = steps_short list (All-tail (IsReadable spec) step list all) in
      let whole = length-append (step_line spec step) (steps_text spec list) in
      let more = mul-suc 330 (length list) in
      omega (arith, line, rest, whole, more)
