use Rattle.adl_lexer.proofs.KeywordWords.{keyword_is, no_keyword}
use Rattle.adl_lexer.proofs.laws.keywords_are_their_words.Goals as goal

pub returns-clause-none : goal.returns-clause-none
returns-clause-none c = no_keyword

pub returns-clause-some : goal.returns-clause-some
returns-clause-some c = keyword_is
