-- What the program's reader makes of its words is what `read_words` says.
use Rattle.std.proofs.Common.{rules}
use Rattle.command_words.proofs.Common.{AreUtf8, Bool, Box, Command, Err, HasKind, IfOk, IsUtf8, IsUtf8-string_bytes, Kinds, List, MatchResult, None, Ok, Option, OutOfMemory, Result, Row, Shape, Some, String, Text, [], ap, ap₂, built, bytes_eq}
use Rattle.command_words.proofs.Common.{bytes_eq-Decides, codes, command_of, cond, count_of, false, fault_of, is_simple, is_simple_and_free, level_fault, made_of, map, nothing_held, of_count, of_four}
use Rattle.command_words.proofs.Common.{of_one, of_three, of_two, option_and_then, option_map, read_words, reader, refl, rows_after, same_Some, string_bytes, subcommand_of, subcommand_rows, subst, sym, taken, true, true≢false, ℕ, ⊎_elim, ◌||◌, ◌∙◌}
use Rattle.command_words.proofs.Common.{◌∷◌, ◌≡◌, is_dashed}
use Rattle.std.specs.Box.{box_value}
use Rattle.clap.specs.Values.{kind_of}
use Rattle.clap.specs.declared.error.Error.{Error}
use Rattle.clap.specs.declared.parser.matches.SubCommand.{SubCommand}
use Rattle.clap.specs.declared.parser.matches.ArgMatches.TheViews.{out-SubCommand}
use Rattle.clap.proofs.OnLiterals.{clap_on_literals}
use Rattle.command_words.specs.declared.command.Command.TheVariants.{Compile, Check, List as Listing, Explain, Replay, Generate, Audit, Certify, Sections, Plan}
use Rattle.command_words.specs.declared.command.WordsError.{WordsError}
use Rattle.command_words.proofs.Slots.{AreTexts, has_slots, level_fails, level_same, passes, some≢none}
use Rattle.command_words.proofs.Names.{command_met, named, no_command}

-- ---- each command

abbrev Made : Type 0
Made = List Text → Option Command

-- what a command's matches make, where the words after it are us
abbrev FitsAt : Shape → List Text → Option Command → Type 0
FitsAt s us made =
    (passes (level_fault s [] nothing_held (codes "--" ∷ us) false []) ≡ true
    → made_of s.name (rows_after s.rules [] (codes "--" ∷ us)) ≡ made)
    × (passes (level_fault s [] nothing_held (codes "--" ∷ us) false []) ≡ false → made ≡ None)

abbrev FitsMade : Option Shape → Made → Type 0
FitsMade None make = (us : List Text) → make us ≡ None
FitsMade (Some s) make = (has_slots s ≡ true) × ((us : List Text) → FitsAt s us (make us))

fails : {A : Type 0} → false ≡ true → A
fails e = absurd (true≢false (sym e))

works : {A : Type 0} → true ≡ false → A
works e = absurd (true≢false e)

abbrev subs : List Shape
subs = (built reader).subs

abbrev sub : Text → Shape
sub name = Rattle.std.specs.Option.unwrap_or (named name subs) (Rattle.clap.specs.Simple.new_shape [])

compile_fits : (us : List Text) → FitsAt (sub (codes "compile")) us (of_two Compile us)
unfolding clap_on_literals
compile_fits (a ∷ b ∷ []) = (λ p. refl, λ p. works p)
compile_fits _ = (λ p. fails p, λ p. refl)

check_fits : (us : List Text) → FitsAt (sub (codes "check")) us (of_three Check us)
unfolding clap_on_literals
check_fits (a ∷ b ∷ c ∷ []) = (λ p. refl, λ p. works p)
check_fits _ = (λ p. fails p, λ p. refl)

list_fits : (us : List Text) → FitsAt (sub (codes "list")) us (of_one Listing us)
unfolding clap_on_literals
list_fits (a ∷ []) = (λ p. refl, λ p. works p)
list_fits _ = (λ p. fails p, λ p. refl)

explain_fits : (us : List Text) → FitsAt (sub (codes "explain")) us (of_four Explain us)
unfolding clap_on_literals
explain_fits (a ∷ b ∷ c ∷ d ∷ []) = (λ p. refl, λ p. works p)
explain_fits _ = (λ p. fails p, λ p. refl)

replay_fits : (us : List Text) → FitsAt (sub (codes "replay")) us (of_three Replay us)
unfolding clap_on_literals
replay_fits (a ∷ b ∷ c ∷ []) = (λ p. refl, λ p. works p)
replay_fits _ = (λ p. fails p, λ p. refl)

generate_fits : (us : List Text) → FitsAt (sub (codes "generate")) us (of_count Generate us)
unfolding clap_on_literals
generate_fits (a ∷ []) = (λ p. refl, λ p. works p)
generate_fits _ = (λ p. fails p, λ p. refl)

audit_fits : (us : List Text) → FitsAt (sub (codes "audit")) us (of_two Audit us)
unfolding clap_on_literals
audit_fits (a ∷ b ∷ []) = (λ p. refl, λ p. works p)
audit_fits _ = (λ p. fails p, λ p. refl)

certify_fits : (us : List Text) → FitsAt (sub (codes "certify")) us (of_two Certify us)
unfolding clap_on_literals
certify_fits (a ∷ b ∷ []) = (λ p. refl, λ p. works p)
certify_fits _ = (λ p. fails p, λ p. refl)

sections_fits : (us : List Text) → FitsAt (sub (codes "sections")) us (of_one Sections us)
unfolding clap_on_literals
sections_fits (a ∷ []) = (λ p. refl, λ p. works p)
sections_fits _ = (λ p. fails p, λ p. refl)

plan_fits : (us : List Text) → FitsAt (sub (codes "plan")) us (of_two Plan us)
unfolding clap_on_literals
plan_fits (a ∷ b ∷ []) = (λ p. refl, λ p. works p)
plan_fits _ = (λ p. fails p, λ p. refl)

next : (b : Bool) (s : Shape) (o : Option Shape) (m n : Made) → has_slots s ≡ true → ((us : List Text) → FitsAt s us (m us))
    → FitsMade o n
    → FitsMade (cond (b || false) (Some s) o) (λ us. cond b (m us) (n us))
next true s o m n slots fits rest = (slots, fits)
next false s o m n slots fits rest = rest

each_fits : (name : Text) → FitsMade (named name subs) (command_of name)
each_fits name =
    next (bytes_eq (codes "compile") name) _ _ (of_two Compile) _ refl compile_fits
    (next (bytes_eq (codes "check") name) _ _ (of_three Check) _ refl check_fits
    (next (bytes_eq (codes "list") name) _ _ (of_one Listing) _ refl list_fits
    (next (bytes_eq (codes "explain") name) _ _ (of_four Explain) _ refl explain_fits
    (next (bytes_eq (codes "replay") name) _ _ (of_three Replay) _ refl replay_fits
    (next (bytes_eq (codes "generate") name) _ _ (of_count Generate) _ refl generate_fits
    (next (bytes_eq (codes "audit") name) _ _ (of_two Audit) _ refl audit_fits
    (next (bytes_eq (codes "certify") name) _ _ (of_two Certify) _ refl certify_fits
    (next (bytes_eq (codes "sections") name) _ _ (of_one Sections) _ refl sections_fits
    (next (bytes_eq (codes "plan") name) _ _ (of_two Plan) _ refl plan_fits
    (λ us. refl))))))))))

none_then : (make : Made) (o : Option (List Text)) → ((us : List Text) → make us ≡ None) → option_and_then make o ≡ None
none_then make None h = refl
none_then make (Some us) h = h us

-- ---- the words

abbrev made_from : Option (Text × List Row) → Option Command
made_from None = None
made_from (Some p) = made_of p.0 p.1

abbrev Right : Bool → Option (Text × List Row) → Option Command → Type 0
Right passed met read = (passed ≡ true → made_from met ≡ read) × (passed ≡ false → read ≡ None)

all_right : (words : List Text) → AreTexts words → Right (passes (fault_of reader words)) (subcommand_of reader words)
    (read_words words)
unfolding clap_on_literals
all_right [] u = (λ e. fails e, λ e. refl)
all_right (name ∷ rest) u = go (named name subs) refl (each_fits name) (taken rest) refl
  where
    go : (o : Option Shape) → named name subs ≡ o → FitsMade o (command_of name) → (after : Option (List Text))
        → taken rest ≡ after
        → Right (passes (fault_of reader (name ∷ rest))) (subcommand_of reader (name ∷ rest))
        (option_and_then (command_of name) after)
    go None e fits after is =
        let bad = no_command subs name u.0 e rest in
        (λ p. fails (sym bad ∙ p), λ p. none_then (command_of name) after fits)
    go (Some s) e fits None is =
        let met = command_met subs name s refl e rest in
        let bad = level_fails s fits.0 rest u.1 is in
        (λ p. fails (sym bad ∙ (sym (ap (λ k. passes k) met.0) ∙ p)), λ p. refl)
    go (Some s) e fits (Some us) is =
        let met = command_met subs name s refl e rest in
        let same = level_same s fits.0 rest us is in
        let fits_here = fits.1 us in
        let fault = ap (λ k. passes k) (met.0 ∙ same.0) in
        let made = ap made_from (met.1 ∙ ap (λ (rows : List Row). Some (s.name, rows)) same.1) in
        (λ p. made ∙ fits_here.0 (sym fault ∙ p), λ p. fits_here.1 (sym fault ∙ p))

-- ---- the words that a command takes

taken_texts : (words us : List Text) → AreTexts words → taken words ≡ Some us → AreTexts us
taken_texts [] us u e = subst AreTexts (same_Some [] us e) tt
taken_texts (w ∷ ws) us u e = go (bytes_eq w (codes "--")) (is_dashed w) (taken ws) (λ vs. taken_texts ws vs u.1) e
  where
    go : (a b : Bool) (o : Option (List Text)) → ((vs : List Text) → o ≡ Some vs → AreTexts vs)
        → cond a (Some ws) (cond b None (option_map (λ more. w ∷ more) o)) ≡ Some us → AreTexts us
    go true b o rest e = subst AreTexts (same_Some ws us e) u.1
    go false false (Some vs) rest e = subst AreTexts (same_Some (w ∷ vs) us e) (u.0, rest vs refl)
    go false _ _ rest e = absurd (some≢none us (sym e))

one_texts : (make : Text → Command) → ((a : Text) → IsUtf8 a → AreUtf8 (make a)) → (us : List Text) (c : Command) → AreTexts us
    → of_one make us ≡ Some c → AreUtf8 c
one_texts make fit (a ∷ []) c u e = subst AreUtf8 (same_Some (make a) c e) (fit a u.0)
one_texts make fit _ c u e = absurd (some≢none c (sym e))

two_texts : (make : Text → Text → Command) → ((a b : Text) → IsUtf8 a × IsUtf8 b → AreUtf8 (make a b))
    → (us : List Text) (c : Command) → AreTexts us → of_two make us ≡ Some c → AreUtf8 c
two_texts make fit (a ∷ b ∷ []) c u e = subst AreUtf8 (same_Some (make a b) c e) (fit a b (u.0, u.1.0))
two_texts make fit _ c u e = absurd (some≢none c (sym e))

three_texts : (make : Text → Text → Text → Command) → ((a b d : Text) → IsUtf8 a × (IsUtf8 b × IsUtf8 d) → AreUtf8 (make a b d))
    → (us : List Text) (c : Command) → AreTexts us → of_three make us ≡ Some c → AreUtf8 c
three_texts make fit (a ∷ b ∷ d ∷ []) c u e = subst AreUtf8 (same_Some (make a b d) c e) (fit a b d (u.0, (u.1.0, u.1.1.0)))
three_texts make fit _ c u e = absurd (some≢none c (sym e))

four_texts : (make : Text → Text → Text → Text → Command) → ((a b d f : Text) → IsUtf8 a × (IsUtf8 b × (IsUtf8 d × IsUtf8 f))
    → AreUtf8 (make a b d f)) → (us : List Text) (c : Command) → AreTexts us → of_four make us ≡ Some c → AreUtf8 c
four_texts make fit (a ∷ b ∷ d ∷ f ∷ []) c u e = subst AreUtf8 (same_Some (make a b d f) c e)
    (fit a b d f (u.0, (u.1.0, (u.1.1.0, u.1.1.1.0))))
four_texts make fit _ c u e = absurd (some≢none c (sym e))

counted_texts : (count : Option ℕ) (c : Command) → option_map Generate count ≡ Some c → AreUtf8 c
counted_texts None c e = absurd (some≢none c (sym e))
counted_texts (Some n) c e = subst AreUtf8 (same_Some (Generate n) c e) tt

count_texts : (us : List Text) (c : Command) → of_count Generate us ≡ Some c → AreUtf8 c
count_texts (a ∷ []) c e = counted_texts (count_of a) c e
count_texts _ c e = absurd (some≢none c (sym e))

either_texts : (b : Bool) (x y : Option Command) (c : Command) → (x ≡ Some c → AreUtf8 c) → (y ≡ Some c → AreUtf8 c)
    → cond b x y ≡ Some c → AreUtf8 c
either_texts true x y c here rest e = here e
either_texts false x y c here rest e = rest e

command_texts : (name : Text) (us : List Text) (c : Command) → AreTexts us → command_of name us ≡ Some c → AreUtf8 c
command_texts name us c u =
    either_texts (bytes_eq (codes "compile") name) _ _ c (two_texts Compile (λ a b t. t) us c u)
    (either_texts (bytes_eq (codes "check") name) _ _ c (three_texts Check (λ a b d t. t) us c u)
    (either_texts (bytes_eq (codes "list") name) _ _ c (one_texts Listing (λ a t. t) us c u)
    (either_texts (bytes_eq (codes "explain") name) _ _ c (four_texts Explain (λ a b d f t. t) us c u)
    (either_texts (bytes_eq (codes "replay") name) _ _ c (three_texts Replay (λ a b d t. t) us c u)
    (either_texts (bytes_eq (codes "generate") name) _ _ c (count_texts us c)
    (either_texts (bytes_eq (codes "audit") name) _ _ c (two_texts Audit (λ a b t. t) us c u)
    (either_texts (bytes_eq (codes "certify") name) _ _ c (two_texts Certify (λ a b t. t) us c u)
    (either_texts (bytes_eq (codes "sections") name) _ _ c (one_texts Sections (λ a t. t) us c u)
    (either_texts (bytes_eq (codes "plan") name) _ _ c (two_texts Plan (λ a b t. t) us c u)
    (λ e. absurd (some≢none c (sym e))))))))))))

read_texts : (words : List Text) (c : Command) → AreTexts words → read_words words ≡ Some c → AreUtf8 c
read_texts [] c u e = absurd (some≢none c (sym e))
read_texts (name ∷ rest) c u e = go (taken rest) (λ us. taken_texts rest us u.1) e
  where
    go : (o : Option (List Text)) → ((us : List Text) → o ≡ Some us → AreTexts us)
        → option_and_then (command_of name) o ≡ Some c → AreUtf8 c
    go None texts e = absurd (some≢none c (sym e))
    go (Some us) texts e = command_texts name us c (texts us refl) e

pub made_texts : (words : List Text) → AreTexts words → (r : Result Command WordsError) (Q : WordsError → Type 0)
    → MatchResult r (λ c. read_words words ≡ Some c) Q → IfOk r AreUtf8
made_texts words u (Ok c) Q m = read_texts words c u m
made_texts words u (Err e) Q m = tt

-- ---- what `read_words` cites

pub reader_is_simple : is_simple_and_free reader ≡ true
reader_is_simple = refl

pub reader_has_matches : is_simple reader ≡ true
reader_has_matches = refl

pub are_texts : {Z : Type 0} (xs : List (String Z)) → AreTexts (map (λ s. string_bytes s) xs)
are_texts [] = tt
are_texts (x ∷ xs) = (IsUtf8-string_bytes x, are_texts xs)

pub differs : (word name : Text) → (name ≡ word → ⊥) → bytes_eq word name ≡ false
differs word name not_same = search (rules, bytes_eq-Decides)

-- the subcommand's name and rows, as the getters give them
pub met_is : {Z : Type 0} (o : Option (Box SubCommand Z)) (name : Text) (rows : List Row)
    → Some name ≡ option_map (λ b. (out-SubCommand (box_value b)).name.now) o
    → Some rows ≡ option_map (λ p. p.1) (subcommand_rows o) → subcommand_rows o ≡ Some (name, rows)
met_is None name rows n r = absurd (some≢none name n)
met_is (Some b) name rows n r = ap₂ (λ x y. Some (x, y)) (sym (same_Some _ _ n)) (sym (same_Some _ _ r))

module _ (words : List Text) (u : AreTexts words) where
  pub read_ok : fault_of reader words ≡ [] → (name : Text) (rows : List Row) → subcommand_of reader words ≡ Some (name, rows)
      → made_of name rows ≡ read_words words
  read_ok none name rows met = sym (ap made_from met) ∙ (all_right words u).0 (ap (λ k. passes k) none)

  pub read_none : fault_of reader words ≡ [] → subcommand_of reader words ≡ None → read_words words ≡ None
  read_none none met = sym (sym (ap made_from met) ∙ (all_right words u).0 (ap (λ k. passes k) none))

  pub read_fails : (e : Error) → HasKind (fault_of reader words) e → (kind_of e ≡ OutOfMemory → ⊥) → read_words words ≡ None
  read_fails e has not_memory = go (fault_of reader words) refl has
    where
      go : (ks : Kinds) → fault_of reader words ≡ ks → HasKind ks e → read_words words ≡ None
      go [] is has = ⊎_elim (λ m. absurd (not_memory m)) (λ none. absurd none) has
      go (k ∷ ks) is has = (all_right words u).1 (ap (λ k. passes k) is)
