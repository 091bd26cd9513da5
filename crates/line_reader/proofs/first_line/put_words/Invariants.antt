use Rattle.std.proofs.Common.{◌≡◌, ◌++◌, length, map}
use Rattle.line_reader.specs.{FirstLine.IsLeft, FirstLine.first_line, Seen.name_seen, Words.words_of}
use Rattle.line_reader.proofs.first_line.put_words.Given as goal

-- the words so far, and behind them those of what is left
abbrev pub invariant-loop-rest : goal.invariant-loop-rest
invariant-loop-rest l = record {
  left : IsLeft l.text l.rest;
  words : words_of (first_line l.text) ≡ map name_seen l.words.items ++ words_of (first_line l.rest);
}

abbrev pub decreases-loop-rest : goal.decreases-loop-rest
decreases-loop-rest l = length l.rest
