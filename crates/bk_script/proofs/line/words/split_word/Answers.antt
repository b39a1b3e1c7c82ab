use Rattle.bk_script.proofs.Words.{word_before, word_without}
use Rattle.bk_script.proofs.line.words.split_word.Goals as goal

pub returns-in-Some-clause-word : goal.returns-in-Some-clause-word
returns-in-Some-clause-word c = (word_before _ _ _ c.split_once.ensures.cases c.in-Some.is).1

pub returns-in-None-clause-word : goal.returns-in-None-clause-word
returns-in-None-clause-word c = word_without _ _ c.split_once.ensures.cases c.in-None.is
