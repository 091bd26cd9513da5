use Rattle.std.proofs.Common.{◌≡◌, ◌++◌, drop}
use Rattle.std.specs.String.{string_bytes}
use Rattle.schedule_reader.specs.Text.{token_of, spaced_tokens}
use Rattle.schedule_reader.proofs.writing.tokens.Given as goal

-- the tokens so far and those that are left are all
abbrev pub invariant-loop-run : goal.invariant-loop-run
invariant-loop-run l =
    string_bytes l.text ++ spaced_tokens (drop l.run-index l.rest) ≡ token_of l.fn.first ++ spaced_tokens l.rest
