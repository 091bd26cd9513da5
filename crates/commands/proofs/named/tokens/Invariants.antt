use Rattle.std.proofs.Common.{◌≡◌, ◌++◌, drop, map}
use Rattle.commands.specs.Named.{named_token, spaced_words}
use Rattle.line_reader.specs.Seen.{name_seen}
use Rattle.commands.proofs.named.tokens.Given as goal

-- the tokens so far and those that are left are all
abbrev pub invariant-loop-run : goal.invariant-loop-run
invariant-loop-run l =
    l.text.items ++ spaced_words (map name_seen l.names) (drop l.run-index l.rest)
    ≡ named_token (map name_seen l.fn.names) l.fn.first ++ spaced_words (map name_seen l.fn.names) l.fn.rest
