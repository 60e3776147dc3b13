use Rattle.command_words.proofs.Common.{HasKind, List, MatchResult-weaker, Text, [], ap, map, reader, string_bytes, subst, sym, ◌∙◌, ◌≡◌}
use Rattle.clap.specs.Words.{App, fault_of, is_simple, is_simple_and_free, subcommand_of}
use Rattle.command_words.proofs.Readings.{are_texts, made_texts, met_is, read_fails, read_ok, reader_has_matches, reader_is_simple}
use Rattle.command_words.proofs.reading.read_words.Goals as goal

pub returns-in-Some-clause-read : goal.returns-in-Some-clause-read
returns-in-Some-clause-read c =
    let reader_is = c.in_ok-reader.ensures in
    let words : List Text = map (λ s. string_bytes s) c.args.words.now in
    let none : fault_of reader words ≡ [] = ap (λ (a : App). fault_of a words) (sym reader_is)
    ∙ c.in-Ok.ensures.kinds (ap is_simple_and_free reader_is ∙ reader_is_simple) in
    let met = ap (λ (a : App). subcommand_of a words) (sym reader_is)
    ∙ sym (c.in-Ok.ensures.matches (ap is_simple reader_is ∙ reader_has_matches)).1
    ∙ met_is _ _ _ c.in-Some.ensures.name c.in-Some.ensures.rows in
    let right = read_ok words (are_texts c.args.words.now) none _ _ met in
    MatchResult-weaker c.command_from.result c.command_from.ensures (λ x h. sym right ∙ h) (λ y h is. sym right ∙ h is)

pub returns-clause-read : goal.returns-clause-read
returns-clause-read c =
    let reader_is = c.in_ok-reader.ensures in
    let words : List Text = map (λ s. string_bytes s) c.args.words.now in
    let kinds = subst (λ (a : App). HasKind (fault_of a words) c.in-Err.error) reader_is
    (c.in-Err.ensures.kinds (ap is_simple_and_free reader_is ∙ reader_is_simple)) in
    λ same. read_fails words (are_texts c.args.words.now) c.in-Err.error kinds
    (λ m. c.in_default.not-OutOfMemory (c.kind.ensures ∙ m))

pub returns-in-Some-clause-utf8 : goal.returns-in-Some-clause-utf8
returns-in-Some-clause-utf8 c = made_texts _ (are_texts c.args.words.now) c.command_from.result _ (returns-in-Some-clause-read c)
