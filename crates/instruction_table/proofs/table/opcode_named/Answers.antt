use Rattle.std.proofs.Common.{◌≡◌, ◌∙◌, ◌<◌, length, IfSome, MatchOption, option_map, Option, Some, None, List, ℕ, ap, slice_index_or, arith}
use Rattle.instruction_table.specs.Table.{Entry, no_entry, entry_named, table}
use Rattle.instruction_table.proofs.{TableLemmas.named_is_placed, TableLemmas.named_is_within, WordSlots.found_there}
use Rattle.instruction_table.proofs.table.opcode_named.Goals as goal

-- the answer is the opcode of the entry with the word, at whose place it stands
placed : (word : List ℕ) (there : Option Entry) (found : Option ℕ) → found ≡ option_map (λ e. e.opcode) there → there ≡ entry_named table word →
    MatchOption found (entry_named table word ≡ None) (λ opcode. entry_named table word ≡ Some (slice_index_or table opcode no_entry))
placed word there found is same = grind (arith, named_is_placed)

within : (word : List ℕ) (there : Option Entry) (found : Option ℕ) → found ≡ option_map (λ e. e.opcode) there → there ≡ entry_named table word →
    IfSome found (λ opcode. opcode < length table)
within word there found is same = grind (arith, named_is_within)

pub returns-clause-opcode : goal.returns-clause-opcode
returns-clause-opcode c =
    c.opcode_there.ensures
    ∙ ap (option_map (λ (e : Entry). e.opcode)) (found_there c.args.word.now c.place_of.result c.place_of.ensures)

pub returns-clause-entry : goal.returns-clause-entry
returns-clause-entry c =
    placed c.args.word.now _ c.opcode_there.result c.opcode_there.ensures (found_there c.args.word.now c.place_of.result c.place_of.ensures)

pub returns-clause-there : goal.returns-clause-there
returns-clause-there c =
    within c.args.word.now _ c.opcode_there.result c.opcode_there.ensures (found_there c.args.word.now c.place_of.result c.place_of.ensures)
