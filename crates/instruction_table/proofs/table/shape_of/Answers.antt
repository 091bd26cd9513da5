use Rattle.std.proofs.Common.{◌≡◌, ◌∙◌, IfSome, Some, slice_index_or, List, ℕ, ◌≤◌, length, ap, sym, subst}
use Rattle.instruction_table.specs.Table.{Entry, no_entry, entry_of, entry_named, table}
use Rattle.instruction_table.proofs.TableLemmas.{named_is_only, named_is_placed, named_is_short}
use Rattle.instruction_table.proofs.table.shape_of.Goals as goal

-- the entry of the shape is the one with the word
found : (word : List ℕ) (e at : Entry) → e ≡ at → entry_named table word ≡ Some at → Some e ≡ entry_named table word
found word e at same is = ap (λ (x : Entry). Some x) same ∙ sym is

placed : (word : List ℕ) (e : Entry) → Some e ≡ entry_named table word → slice_index_or table e.opcode no_entry ≡ e
placed word e is = subst (λ o. IfSome o (λ e. slice_index_or table e.opcode no_entry ≡ e)) (sym is) (named_is_placed word)

short : (word : List ℕ) (e : Entry) → Some e ≡ entry_named table word → length e.operands ≤ 4
short word e is = subst (λ o. IfSome o (λ e. length e.operands ≤ 4)) (sym is) (named_is_short word)

pub returns-in-Some-clause-only : goal.returns-in-Some-clause-only
returns-in-Some-clause-only c =
    named_is_only c.args.word.now (entry_of c.shape_at.result)
    (sym (found c.args.word.now (entry_of c.shape_at.result) _ c.shape_at.ensures c.in-Some.ensures.entry))

pub returns-in-Some-clause-short : goal.returns-in-Some-clause-short
returns-in-Some-clause-short c =
    short c.args.word.now (entry_of c.shape_at.result)
    (found c.args.word.now (entry_of c.shape_at.result) _ c.shape_at.ensures c.in-Some.ensures.entry)
