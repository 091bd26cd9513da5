use Rattle.std.proofs.Common.{◌≡◌, ◌≤◌, ℕ, List, ap, arith, length, rules}
use Rattle.debugger.specs.Command.{word_of}
use Rattle.debugger.proofs.Letters.{some_letter}
use Rattle.debugger.proofs.command.few_of_go.Goals as goal

pub few_in-requires : goal.few_in-requires
few_in-requires c =
    let long : length c.args.line.now ≤ 9223372036854775807 = search (rules, arith) in
    let word : length c.split_word.result.0.now ≡ length (word_of c.args.line.now) = ap (λ (l : List ℕ). length l) c.split_word.ensures.word in
    omega (arith, long, word, some_letter (word_of c.args.line.now) c.requires, c.split_word.ensures.lengths)
