-- What a writer says piece by piece, and what is written at the end.
use Rattle.std.proofs.Common.{rules}
use Rattle.cam_io.proofs.Common.{Bool, Bor, Err, Flushes, IsTrue, List, Ok, OnOk, Result, Said, Says, Sink, Writes, [], ap, append-nil, append_assoc, false, flat_map, get_or, get_or_from_slice_get, is_err, is_open, length, outcome, refl}
use Rattle.cam_io.proofs.Common.{slice_get-get_or, subst, sym, take, take_all, true, ℕ, ◌++◌, ◌+◌, ◌<◌, ◌∙◌, ◌≡◌, ◌≤◌}
use Rattle.cam_base.specs.Texts.{◌⊹◌}
use Rattle.cam_io.specs.declared.files.Failed.{Failed}
use Rattle.cam_io.specs.declared.outputs.Outputs.{Ghosts}
use Rattle.cam_io.specs.declared.writer.Writer.{Writer}
use Rattle.cam_io.proofs.Appends.{open_appended}
use Rattle.cam_io.proofs.Sequence.{writes_after, writes_first}
use Rattle.cam_io.proofs.Writing.{lines_more}

-- a piece that is read with a default is itself the default
pub read_is : (xs : List (Bor (List ℕ))) (i : ℕ) (d : Bor (List ℕ)) → i < length xs → get_or xs i d ≡ get_or xs i (get_or xs i d)
read_is xs i d h = sym (get_or_from_slice_get xs i (get_or xs i d) (get_or xs i d) (slice_get-get_or xs i d h))

-- a piece behind a text that is written
wrote_more : (r : Result (Unit {0}) Failed) (f g : Bool) {c m n k : ℕ} {s t u : Sink} (a b : List ℕ) → f ≡ false → g ≡ is_err r
    → Writes r c b t u n k → Writes (outcome f) c a s t m n → Writes (outcome g) c (a ++ b) s u m k
unfolding ◌⊹◌
wrote_more (Ok x) false false a b e h w v = writes_after w v
wrote_more (Err x) false true a b e h w v = search (rules, writes_after)
wrote_more r true g a b e h w v = cc
wrote_more (Ok x) false true a b e h w v = cc
wrote_more (Err x) false false a b e h w v = cc

-- what was open stays open
pub open_written : {E : Type 0} (r : Result (Unit {0}) E) {c m n : ℕ} {s t : Sink} (a : List ℕ) → Writes r c a s t m n
    → IsTrue (is_open s c) → IsTrue (is_open t c)
open_written (Ok x) {c} {s = s} {t = t} a w h = open_appended s t c c a w.ok h
open_written (Err x) {c} {s = s} {t = t} a w h = open_appended s t c c (take w.err.count a) w.err.front h

-- what was sent is all of the text, unless the writer has failed
wrote_all : (failed : Bool) (r : Result (Unit {0}) Failed) {c m n : ℕ} {s t : Sink} {text all sent rest waiting : List ℕ}
    → r ≡ outcome failed → all ≡ text → all ≡ sent ++ rest → (failed ≡ false → rest ≡ waiting) → OnOk r (waiting ≡ [])
    → Writes (outcome failed) c sent s t m n → Writes r c text s t m n
unfolding ◌⊹◌
wrote_all false r {sent = sent} e same parts waits none w =
    let empty : OnOk (outcome false) _ = rw e at none in
    rw (e, ← same, parts, waits refl, empty, append-nil sent) w
wrote_all true r {rest = rest} e same parts waits none w = rw (e, ← same, parts) (writes_first rest w)

outcome_of : (r : Result (Unit {0}) Failed) {failed : Bool} → failed ≡ is_err r → r ≡ outcome failed
outcome_of (Ok x) e = rw e refl
outcome_of (Err x) e = rw e refl

none_waits : (r : Result (Unit {0}) Failed) {waiting : List ℕ} → waiting ≡ [] → OnOk r (waiting ≡ [])
none_waits (Ok x) e = e
none_waits (Err x) e = tt

module _ {O : Type 0} {T : Ghosts O} where
  -- a piece that waits
  pub says_waiting : {old new : Writer O T} {text : List ℕ} → new.out ≡ old.out → new.channel ≡ old.channel
      → new.failed ≡ old.failed → new.waiting.items ≡ old.waiting.items ++ text → Says old text new
  says_waiting {old} {new} {text} out channel failed more = search (rules, append_assoc)

  -- what waited, and a piece behind it, are sent
  pub says_sent : {old new : Writer O T} {r : Result (Unit {0}) Failed} {text sent : List ℕ} → old.failed ≡ false
      → new.out.ghost_name ≡ old.out.ghost_name → new.channel ≡ old.channel → new.failed ≡ is_err r
      → Writes r old.channel sent (T.sink old.out.now) (T.sink new.out.now) (T.faults old.out.now) (T.faults new.out.now)
      → old.waiting.items ++ text ≡ sent → new.waiting.items ≡ [] → Says old text new
  says_sent {old} {new} {r} {text} {sent} e same channel is w these none = record {
    same = same;
    channel = channel;
    said = λ s x m h. record {
      sent = h.sent ++ sent;
      rest = [];
      all = search (rules, append_assoc, append-nil);
      writes = rw channel (wrote_more r old.failed new.failed h.sent sent e is w h.writes);
      waits = λ still. none;
    };
  }

  pub says_nothing : {w : Writer O T} → Says w [] w
  says_nothing {w} = record { same = refl; channel = refl; said = λ s x m h. rw (append-nil x) h }

  pub flushes_failed : {w : Writer O T} → w.failed ≡ true → Flushes w (Err record {}) w
  flushes_failed {w} e = record { said = says_nothing; answers = sym (ap outcome e); none = tt }

  pub flushes_sent : {old new : Writer O T} {r : Result (Unit {0}) Failed} → new.failed ≡ is_err r → Says old [] new
      → new.waiting.items ≡ [] → Flushes old r new
  flushes_sent {new = new} {r = r} is said none = record { said = said; answers = outcome_of r is; none = none_waits r none }

  -- one text behind another
  pub says_more : {u v w : Writer O T} {a b : List ℕ} → Says u a v → Says v b w → Says u (a ++ b) w
  says_more {a = a} {b = b} x y = record {
    same = y.same ∙ x.same;
    channel = y.channel ∙ x.channel;
    said = λ s t m h. rw (sym (append_assoc t a b)) (y.said s (t ++ a) m (x.said s t m h));
  }

  pub says_then : {u v w : Writer O T} {a b : List ℕ} → Says u a v → Says v b w → Says u (a ⊹ b) w
  unfolding ◌⊹◌
  says_then x y = says_more x y

  -- a line more of a list
  pub says_line : {X : Type 0} (f : X → List ℕ) {u v w : Writer O T} (xs : List X) (i : ℕ) (x : X) → i < length xs
      → x ≡ get_or xs i x → Says u (flat_map f (take i xs)) v → Says v (f x) w → Says u (flat_map f (take (i + 1) xs)) w
  says_line f {u = u} {w = w} xs i x h is a b =
      subst (λ (t : List ℕ). Says u t w) (sym (lines_more f xs i x h is)) (says_more a b)

  -- after the last line all are said
  pub says_lines : {X : Type 0} (f : X → List ℕ) {u v : Writer O T} (xs : List X) (i : ℕ) → length xs ≤ i
      → Says u (flat_map f (take i xs)) v → Says u (flat_map f xs) v
  says_lines {X} f {u} {v} xs i h a = subst (λ (ys : List X). Says u (flat_map f ys) v) (take_all i xs h) a

  -- a text that is said from the first on is written, once nothing waits
  pub said_all : {u v w : Writer O T} {r : Result (Unit {0}) Failed} {c m : ℕ} {s : Sink} {text : List ℕ} {out : O}
      → u.channel ≡ c → Said s [] m u → Says u text v → Flushes v r w → out ≡ w.out.now
      → Writes r c text s (T.sink out) m (T.faults out)
  said_all {u} {v} {w} {r} {c} {m} {s} {text} channel first all flushed is =
      let it = flushed.said.said s text m (all.said s [] m first) in
      let same : w.channel ≡ c = flushed.said.channel ∙ (all.channel ∙ channel) in
      rw is (wrote_all w.failed r {sent = it.sent} flushed.answers (append-nil text) it.all (λ e. sym (it.waits e)) flushed.none
      (rw (← same) it.writes))
