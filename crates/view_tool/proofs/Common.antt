-- The names that most proofs cite, passed on from one place. Declares nothing.
pub use Rattle.arch_policy.specs.Tables.{tables_of}
pub use Rattle.cam_base.specs.declared.error.NoMemory.{NoMemory}
pub use Rattle.explain.specs.Explained.{Explains}
pub use Rattle.front_end.proofs.Refusing.{front_sound, meaning_sound}
pub use Rattle.front_end.proofs.Within.{few_labels, sound_within}
pub use Rattle.view_tool.specs.Pages.{Page, page_text}
pub use Rattle.std.proofs.Common.{Bool, Err, List, Ok, Result, [], ap, arith, codes, false, get_or, inl, inr, leb, length, subst, sym, take, take_all, true, ℕ, ◌++◌, ◌+◌, ◌<◌, ◌∙◌, ◌∷◌, ◌≡◌, ◌≤◌}
pub use Rattle.std.specs.Prelude.{IfOk, OnErr}
pub use Rattle.view_text.specs.Graphs.{graph_of}
pub use Rattle.view_tool.specs.Answers.{IsRead, LintsFile, RefusesAs, Wanted, fault, page, tables, wanted}
pub use Rattle.view_tool.specs.Lines.{read_fault, refusal}
pub use Rattle.view_tool.specs.Notes.{AreFewNotes, AreNotes, ArePageNotes, Grounds, IsNote, Tells, label_at, of_build, of_front, told}
pub use Rattle.view_tool.specs.Words.{Gives}
pub use Rattle.view_tool.specs.declared.answer.Answer.{Answer}
