use Rattle.std.proofs.Common.{arith, rules}
use Rattle.instruction_table.proofs.WordSlots.{is_long, place_by_slot}
use Rattle.instruction_table.proofs.table.place_of.Goals as goal

-- a word of fewer letters has no entry
pub returns-in_default : goal.returns-in_default
returns-in_default c = λ e is. let long = is_long c.args.word.now e is in let short = c.in_default.len_below in absurd (omega (arith, long, short))

pub returns-in-len3-up : goal.returns-in-len3-up
returns-in-len3-up c = λ e is. let there = place_by_slot c.args.word.now e is in search (rules, there)
