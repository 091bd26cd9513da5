-- Rows as they are kept: at most one of a row's operands is no register.
use Rattle.std.proofs.Common.{◌≡◌, ◌∙◌, ℕ, Bool, true, false, not, ◌&&◌, ◌||◌, List, [], ◌∷◌, Some, cond, Ok, refl, sym, ap, arith, bytes_eq}
use Rattle.std.specs.List.{list_all}
use Rattle.instruction_table.specs.{declared.shape.OperandKind.OperandKind, Table.Entry, Table.entry_named, Table.table}
use Rattle.line_reader.specs.{declared.symbolic_row.Operand.Operand, Reading.operand_there, Reading.row_of_kinds, Symbols.Name}
use Rattle.line_reader.specs.declared.kept_row.{Held.Held, KeptOperand.KeptOperand}
use Rattle.line_reader.specs.KeptRow.{is_other_there, is_register, one_other, operand_kept, row_kept}

-- each entry of the table has one such operand at most
table_has_one : list_all (λ e. one_other e.operands) table ≡ true
table_has_one = refl

found_passes : (word : List ℕ) (entries : List Entry) (e : Entry) → list_all (λ e. one_other e.operands) entries ≡ true →
    Some e ≡ entry_named entries word → one_other e.operands ≡ true
found_passes word [] e all found = absurd (cc)
found_passes word (x ∷ entries) e all found =
    by (found_passes word entries e) (bytes_eq x.word word) (one_other x.operands) refl all found
  where
    by : (list_all (λ e. one_other e.operands) entries ≡ true → Some e ≡ entry_named entries word → one_other e.operands ≡ true) →
        (here one : Bool) → one_other x.operands ≡ one → (one && list_all (λ e. one_other e.operands) entries) ≡ true →
        Some e ≡ cond here (Some x) (entry_named entries word) → one_other e.operands ≡ true
    by rest true true is all found = let same : e ≡ x = cc in ap (λ y. one_other y.operands) same ∙ is
    by rest false true is all found = rest all found
    by rest here false is all found = absurd (cc)

pub entry_has_one : (word : List ℕ) (e : Entry) → entry_named table word ≡ Some e → one_other e.operands ≡ true
entry_has_one word e found = found_passes word table e table_has_one (sym found)

-- a place that holds what stands there by itself
by_itself : (before after : Held) (operand : KeptOperand) → is_register operand ≡ true →
    operand_kept after operand ≡ operand_kept before operand
by_itself before after operand is = grind arith

-- an operand stays what it was where what is held behind it is not replaced
stays : (before after : Held) (operand : KeptOperand) (here later : Bool) → not (here && later) ≡ true →
    (here ≡ false → is_register operand ≡ true) → (later ≡ false → after ≡ before) →
    operand_kept after operand ≡ operand_kept before operand
stays before after operand true true one itself held = absurd (cc)
stays before after operand true false one itself held = ap (λ h. operand_kept h operand) (held refl)
stays before after operand false later one itself held = by_itself before after operand (itself refl)

either : {A : Type 0} (a b : Bool) (x y z : A) → (a ≡ false → y ≡ x) → (b ≡ false → z ≡ y) → (a || b) ≡ false → z ≡ x
either true b x y z first second none = absurd (cc)
either false b x y z first second none = second none ∙ first refl

both : (a b : Bool) → (a && b) ≡ true → (a ≡ true) × (b ≡ true)
both true b h = (refl, h)
both false b h = absurd (cc)

module _ (opcode : ℕ) (kinds : List OperandKind) (words : List (List ℕ)) (one second third fourth : Held)
    (a b c d : KeptOperand) where
  abbrev other : ℕ → Bool
  other = is_other_there kinds

  put_together : Ok (operand_kept fourth a) ≡ operand_there kinds words 0 → Ok (operand_kept fourth b) ≡ operand_there kinds words 1 →
      Ok (operand_kept fourth c) ≡ operand_there kinds words 2 → Ok (operand_kept fourth d) ≡ operand_there kinds words 3 →
      fourth.opcode ≡ opcode →
      Ok (row_kept (record { held = fourth; first = a; second = b; third = c; fourth = d })) ≡ row_of_kinds opcode kinds words
  unfolding row_of_kinds
  put_together p q r s code = rw (sym p, sym q, sym r, sym s, code) refl

  -- four operands read one behind the other, with what was held behind each
  pub row_as_read : one_other kinds ≡ true →
      Ok (operand_kept one a) ≡ operand_there kinds words 0 → Ok (operand_kept second b) ≡ operand_there kinds words 1 →
      Ok (operand_kept third c) ≡ operand_there kinds words 2 → Ok (operand_kept fourth d) ≡ operand_there kinds words 3 →
      (other 0 ≡ false → is_register a ≡ true) → (other 1 ≡ false → is_register b ≡ true) →
      (other 2 ≡ false → is_register c ≡ true) →
      (other 1 ≡ false → second ≡ one) → (other 2 ≡ false → third ≡ second) → (other 3 ≡ false → fourth ≡ third) →
      fourth.opcode ≡ opcode →
      Ok (row_kept (record { held = fourth; first = a; second = b; third = c; fourth = d })) ≡ row_of_kinds opcode kinds words
  row_as_read alone p q r s ra rb rc hb hc hd code =
      let front = both (not (other 0 && (other 1 || (other 2 || other 3))))
      (not (other 1 && (other 2 || other 3)) && not (other 2 && other 3)) alone in
      let back = both (not (other 1 && (other 2 || other 3))) (not (other 2 && other 3)) front.1 in
      let from-third = hd in
      let from-second = either (other 2) (other 3) second third fourth hc hd in
      let from-one = either (other 1) (other 2 || other 3) one second fourth hb from-second in
      put_together
      (ap (λ (o : Operand Name). Ok o) (stays one fourth a (other 0) (other 1 || (other 2 || other 3)) front.0 ra from-one) ∙ p)
      (ap (λ (o : Operand Name). Ok o) (stays second fourth b (other 1) (other 2 || other 3) back.0 rb from-second) ∙ q)
      (ap (λ (o : Operand Name). Ok o) (stays third fourth c (other 2) (other 3) back.1 rc from-third) ∙ r)
      s code
