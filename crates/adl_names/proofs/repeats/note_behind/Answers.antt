use Rattle.adl_names.proofs.Common.{[], ap, sym, ◌∙◌}
use Rattle.adl_meaning.specs.Prelude.{cons_option, option_copied}
use Rattle.adl_names.proofs.FewRepeated.{noted_word}
use Rattle.adl_names.proofs.repeats.note_behind.Goals as goal

pub returns-in-Some : goal.returns-in-Some
returns-in-Some g c = λ rest. rw (c.note.ensures, c.is_met-is_repeated.ensures, c.place-place.ensures, c.as_bytes.ensures.bytes)
    (noted_word g.T.Worded.words c.args.before.now c.args.item.now c.in-Some.word.now c.args.first.now rest
    (ap (λ o. cons_option (option_copied o) []) (sym c.in-Some.is) ∙ c.word.ensures))
