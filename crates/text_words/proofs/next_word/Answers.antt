-- `next_word`: the word that begins behind what is passed over, or none.
use Rattle.raster_laws.specs.Words.{starts, next_none, next_some}
use Rattle.text_words.proofs.next_word.Goals as goal

pub returns-then-start-text : goal.returns-then-start-text
returns-then-start-text c = next_none c.word_start-start.ensures c.if-start-text.true

pub word_end-end-requires : goal.word_end-end-requires
word_end-end-requires c = starts c.word_start-start.ensures c.if-start-text.false

pub returns : goal.returns
returns c = next_some c.word_start-start.ensures c.word_end-end.ensures
