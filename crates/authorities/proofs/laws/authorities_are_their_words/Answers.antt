use Rattle.authorities.proofs.laws.authorities_are_their_words.Goals as goal
use Rattle.authorities.proofs.Words.{its_word}

pub returns : goal.returns
returns c = its_word
