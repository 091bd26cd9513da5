use Rattle.std.specs.Str.Iter.{split_ascii_whitespace_text}
use Rattle.vuthgal_c.proofs.Words.{ComeBefore}
use Rattle.vuthgal_c.proofs.explaining.words_of.Given as goal

-- the words so far, before those of what is left, are the words of the text
abbrev pub invariant-loop-word : goal.invariant-loop-word
invariant-loop-word l = ComeBefore l.text (split_ascii_whitespace_text l.word-iterator) l.words.items
