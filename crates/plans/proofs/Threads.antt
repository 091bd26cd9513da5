-- Lists of thread numbers, one at a time.
use Rattle.std.proofs.Common.{◌≡◌, ◌+◌, ◌-◌, ◌<◌, ◌≤◌, ◌++◌, ℕ, Bool, true, false, List, [], ◌∷◌, ap, arith, append_assoc, Option, Some, None, append-nil}
use Rattle.std.specs.List.{cons_option, filter_map, find, range_with_len}
use Rattle.thread_machine.specs.declared.choice.Choice.{Choice}

-- the numbers from t up to below n begin with t
pub range_here : (t n : ℕ) → t < n → range_with_len t (n - t) ≡ t ∷ range_with_len (t + 1) (n - (t + 1))
range_here t n there = grind arith

pub range_done : (t n : ℕ) → n ≤ t → range_with_len t (n - t) ≡ []
range_done t n done = grind arith

pub find_here : (test : ℕ → Bool) (t n : ℕ) → t < n → test t ≡ true → find test (range_with_len t (n - t)) ≡ Some t
find_here test t n there passes = grind arith

pub find_later : (test : ℕ → Bool) (t n : ℕ) → t < n → test t ≡ false
    → find test (range_with_len (t + 1) (n - (t + 1))) ≡ find test (range_with_len t (n - t))
find_later test t n there fails = grind (arith, range_here)

pub find_none : (test : ℕ → Bool) (t n : ℕ) → n ≤ t → find test (range_with_len t (n - t)) ≡ None
find_none test t n done = ap (find test) (range_done t n done)

-- what is made of them begins with what is made of the first
pub next_made : (made : ℕ → Option Choice) (t n : ℕ) (items more all : List Choice) → t < n
    → items ++ filter_map made (range_with_len t (n - t)) ≡ all → more ≡ items ++ cons_option (made t) []
    → more ++ filter_map made (range_with_len (t + 1) (n - (t + 1))) ≡ all
next_made made t n items more all there so is = grind (arith, append_assoc, range_here)

pub all_made : (made : ℕ → Option Choice) (t n : ℕ) (items all : List Choice) → n ≤ t
    → items ++ filter_map made (range_with_len t (n - t)) ≡ all → items ≡ all
all_made made t n items all done so = grind (arith, append-nil, range_done)
