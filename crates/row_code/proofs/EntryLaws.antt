-- An entry that is read is spelled by its bytes, and what an entry's bytes say is that entry.
use Rattle.std.proofs.Common.{◌≡◌, ℕ, zero, suc, ◌<◌, ℤ, pos, FitsSigned, Bool, true, false, not, ◌||◌, cond, List, length, get_or, bytes_eq, Option, Some, None, IfSome, Result, Ok, Err, refl, sym, ap, subst, ◌∙◌, arith, ltb-true}
use Rattle.std.proofs.lemmas.{Int.ints, Slice.Eq.bytes_eq-Decides, Bool.Decides.nat_tests}
use Rattle.std.specs.Int.{w32}
use Rattle.instruction_table.specs.{declared.row.Row.Row, Row.is_timed_row}
use Rattle.row_code.specs.declared.{image_fault.ImageFault.ImageFault, phasers.DeclaredPolicy.DeclaredPolicy}
use Rattle.row_code.specs.declared.{phasers.DeclaredPhaser.DeclaredPhaser, barriers.DeclaredBarrier.DeclaredBarrier}
use Rattle.row_code.specs.{declared.threads.DeclaredThread.DeclaredThread, RowFields.IsRow, Answers.◌>>=◌}
use Rattle.row_code.specs.{RowBytes.bytes_of, RowBytes.fields_at, Threads.IsThread, Threads.thread_bytes}
use Rattle.row_code.specs.RowOperands.{row_in, row_with, operands_at}
use Rattle.row_code.specs.Phasers.{IsCount, IsPolicy, IsPhaser, kind_byte, argument, phaser_bytes}
use Rattle.row_code.specs.Barriers.{IsBarrier, action_flag, action_row, barrier_bytes}
use Rattle.row_code.specs.Reading.{u16_at, i32_at, policy_at, phaser_at, action_at, barrier_at, thread_at, row_at, row_or}
use Rattle.row_code.specs.declared.image_fault.ImageFault.TheVariants as fault
use Rattle.row_code.proofs.RowLaws.{i32_back, row_in_its_bytes}
use Rattle.row_code.proofs.Cells.{IsBytes, u16_back, i32_cells, of_four, of_eight, of_twelve}

-- the value of a step that did not fail
pub bind_ok : {A B : Type 0} (r : Result A ImageFault) (f : A → Result B ImageFault) (y : B) → (r >>= f) ≡ Ok y → (x : A) × (r ≡ Ok x) × (f x ≡ Ok y)
bind_ok r f y e = grind arith

abbrev done : {A : Type 0} → A → Result A ImageFault
done x = Ok x

pub ok_is : {A : Type 0} (x y : A) → done x ≡ done y → x ≡ y
ok_is x y e = cc

-- a test that did not fail
guard_ok : {A : Type 0} (b : Bool) (d : ImageFault) (x y : A) → cond b (Ok x) (Err d) ≡ Ok y → (b ≡ true) × (x ≡ y)
guard_ok true d x y e = (refl, cc)
guard_ok false d x y e = absurd (cc)

-- ---- fields

policy_again : (at : ℕ) (policy : DeclaredPolicy) → IsPolicy policy → policy_at at (kind_byte policy) (argument policy) ≡ Ok policy
unfolding policy_at
policy_again at policy h = grind arith

policy_takes : (at kind : ℕ) (z : ℤ) (policy : DeclaredPolicy) → kind < 4 → policy_at at kind z ≡ Ok policy → (kind ≡ kind_byte policy) × (z ≡ argument policy)
unfolding policy_at
policy_takes at zero z policy lt e = grind (arith, bind_ok, ok_is)
policy_takes at (suc zero) z policy lt e = grind (arith, bind_ok, ok_is)
policy_takes at (suc (suc zero)) z policy lt e = grind (arith, bind_ok, ok_is)
policy_takes at (suc (suc (suc zero))) z policy lt e = grind (arith, bind_ok, ok_is)
policy_takes at (suc (suc (suc (suc n)))) z policy lt e = absurd (omega (arith, lt))

action_again : (at : ℕ) (action : Option ℕ) → IfSome action (λ row. row < 65536) → action_at at (action_flag action) (action_row action) ≡ Ok action
unfolding action_at
action_again at action h = grind arith

action_takes : (at flag : ℕ) (z : ℤ) (action : Option ℕ) → action_at at flag z ≡ Ok action → (flag ≡ action_flag action) × (z ≡ action_row action)
unfolding action_at
action_takes at zero z action e = grind (arith, bind_ok, ok_is)
action_takes at (suc zero) z action e = grind (arith, bind_ok, ok_is)
action_takes at (suc (suc n)) z action e = grind (arith, nat_tests)

count_fits : (z : ℤ) → IsCount z → FitsSigned w32 z
count_fits z h = grind (arith, ints)

small : (n : ℕ) → n < 65536 → FitsSigned w32 (pos n)
small n h = record { sfits = omega (arith, h) }

argument_fits : (policy : DeclaredPolicy) → IsPolicy policy → FitsSigned w32 (argument policy)
argument_fits policy h = grind (arith, small, count_fits)

-- a row may stand in an image whose magic says whether there is one with a timeout
abbrev pub MayStand : Bool → Row → Type 0
MayStand timed row = (timed || not (is_timed_row row)) ≡ true

row_or_takes : (timed : Bool) (n : ℕ) (found : Option Row) (row : Row) → row_or timed n found ≡ Ok row → (found ≡ Some row) × MayStand timed row
row_or_takes timed n (Some r) row e =
    let g = guard_ok (timed || not (is_timed_row r)) (fault.Row n) r row e in
    (ap Some g.1, subst (MayStand timed) g.1 g.0)
row_or_takes timed n None row e = absurd (cc)

row_in_takes : (bytes : List ℕ) (row : Row) → row_in bytes ≡ Some row → bytes ≡ bytes_of row
row_in_takes bytes row e =
    let taken = row_with (get_or bytes 0 0) (operands_at (fields_at bytes)) in
    by_test (bytes_eq (bytes_of taken) bytes) refl e
  where
    by_test : (b : Bool) → bytes_eq (bytes_of (row_with (get_or bytes 0 0) (operands_at (fields_at bytes)))) bytes ≡ b →
        cond b (Some (row_with (get_or bytes 0 0) (operands_at (fields_at bytes)))) None ≡ Some row → bytes ≡ bytes_of row
    by_test true is e =
        let taken : row_with (get_or bytes 0 0) (operands_at (fields_at bytes)) ≡ row = cc in
        sym ((bytes_eq-Decides _ _).0 is) ∙ ap bytes_of taken
    by_test false is e = absurd (cc)

-- ---- entries

pub phaser_again : (at : ℕ) (p : DeclaredPhaser) → IsPhaser p → phaser_at at (phaser_bytes p) ≡ Ok p
unfolding phaser_at
phaser_again at p h =
    let first : i32_at (phaser_bytes p) 4 ≡ p.first_phase = i32_back p.first_phase (count_fits p.first_phase h.first_phase) in
    let last : i32_at (phaser_bytes p) 8 ≡ argument p.policy = i32_back (argument p.policy) (argument_fits p.policy h.policy) in
    let parties : u16_at (phaser_bytes p) 2 ≡ p.parties = u16_back p.parties h.parties in
    grind (arith, policy_again)

pub phaser_takes : (at : ℕ) (bytes : List ℕ) (p : DeclaredPhaser) → IsBytes bytes → length bytes ≡ 12 → phaser_at at bytes ≡ Ok p → bytes ≡ phaser_bytes p
unfolding phaser_at
phaser_takes at bytes p fits size e = grind (arith, bind_ok, guard_ok, ltb-true, policy_takes, ok_is, i32_cells, of_twelve)

pub barrier_again : (at : ℕ) (b : DeclaredBarrier) → IsBarrier b → barrier_at at (barrier_bytes b) ≡ Ok b
unfolding barrier_at
barrier_again at b h = grind (arith, u16_back, i32_back, action_again)

pub barrier_takes : (at : ℕ) (bytes : List ℕ) (p : DeclaredBarrier) → IsBytes bytes → length bytes ≡ 8 → barrier_at at bytes ≡ Ok p → bytes ≡ barrier_bytes p
unfolding barrier_at
barrier_takes at bytes p fits size e = grind (arith, bind_ok, action_takes, ok_is, i32_cells, of_eight)

pub thread_again : (at : ℕ) (t : DeclaredThread) → IsThread t → thread_at at (thread_bytes t) ≡ Ok t
unfolding thread_at
thread_again at t h = grind arith

pub thread_takes : (at : ℕ) (bytes : List ℕ) (t : DeclaredThread) → IsBytes bytes → length bytes ≡ 4 → thread_at at bytes ≡ Ok t → bytes ≡ thread_bytes t
unfolding thread_at
thread_takes at bytes t fits size e = grind (arith, bind_ok, of_four, i32_cells, ok_is)

pub row_again : (timed : Bool) (n : ℕ) (row : Row) → IsRow row × MayStand timed row → row_at timed n (bytes_of row) ≡ Ok row
unfolding row_at
row_again timed n row h =
    ap (row_or timed n) (row_in_its_bytes (bytes_of row) row h.0 refl) ∙ ap (λ b. cond b (Ok row) (Err (fault.Row n))) h.1

pub row_takes : (timed : Bool) (n : ℕ) (bytes : List ℕ) (row : Row) → IsBytes bytes → length bytes ≡ 8 → row_at timed n bytes ≡ Ok row → bytes ≡ bytes_of row
unfolding row_at
row_takes timed n bytes row fits size e = row_in_takes bytes row (row_or_takes timed n (row_in bytes) row e).0

pub row_may_stand : (timed : Bool) (n : ℕ) (bytes : List ℕ) (row : Row) → row_at timed n bytes ≡ Ok row → MayStand timed row
unfolding row_at
row_may_stand timed n bytes row e = (row_or_takes timed n (row_in bytes) row e).1
