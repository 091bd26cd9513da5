-- How many stack entries of a kind there are.
use Rattle.std.proofs.Common.{◌≡◌, ◌∙◌, ℕ, zero, suc, ◌+◌, ◌-◌, ◌<◌, ◌≤◌, Bool, true, false, List, [], ◌∷◌, ◌++◌, take, get_or, length, ap, sym, arith, Some, slice_set, slice_index_or, count_by, take_all}
use Rattle.std.proofs.lemmas.Option.{slice_get_cases}
use Rattle.std.proofs.lemmas.List.Sums.{count_by_more_yes, count_by_more_no, sum_by-append}
use Rattle.thread_state.specs.{declared.frame.Frame.Frame, Thread.ThreadState, Thread.top_of}
use Rattle.machine_scene.specs.{Scene.no_thread, Sound.entries, Sound.bit}

-- another state of one thread
pub entries-set : (test : Frame → Bool) (threads : List ThreadState) (t : ℕ) (thread : ThreadState) → t < length threads
    → entries test (slice_set threads t thread) + count_by test (slice_index_or threads t no_thread).stack
    ≡ entries test threads + count_by test thread.stack
entries-set test [] t thread there = absurd (omega (arith, there))
entries-set test (x ∷ threads) zero thread there = omega arith
entries-set test (x ∷ threads) (suc t) thread there = grind (arith, entries-set test threads t thread (omega (arith, there)))

-- those of one thread are among them
pub entries-at : (test : Frame → Bool) (threads : List ThreadState) (t : ℕ) → t < length threads
    → count_by test (slice_index_or threads t no_thread).stack ≤ entries test threads
entries-at test [] t there = absurd (omega (arith, there))
entries-at test (x ∷ threads) zero there = omega arith
entries-at test (x ∷ threads) (suc t) there = let rest = entries-at test threads t (omega (arith, there)) in omega (arith, rest)

last_counts : (test : Frame → Bool) (stack : List Frame) (f : Frame) (b : Bool) → test f ≡ b → length stack - 1 < length stack
    → get_or stack (length stack - 1) f ≡ f → count_by test (take (length stack - 1) stack) + bit b ≡ count_by test stack
last_counts test stack f true is some at =
    let all : take (length stack - 1 + 1) stack ≡ stack = take_all (length stack - 1 + 1) stack (omega (arith, some)) in
    sym (count_by_more_yes test stack (length stack - 1) f some (ap test at ∙ is)) ∙ ap (count_by test) all
last_counts test stack f false is some at =
    let all : take (length stack - 1 + 1) stack ≡ stack = take_all (length stack - 1 + 1) stack (omega (arith, some)) in
    let more = count_by_more_no test stack (length stack - 1) f some (ap test at ∙ is) in
    let same : count_by test (take (length stack - 1) stack) ≡ count_by test stack = sym more ∙ ap (count_by test) all in
    omega (arith, same)

-- without the top entry
pub entries-pop : (test : Frame → Bool) (stack : List Frame) (f : Frame) → top_of stack ≡ Some f
    → count_by test (take (length stack - 1) stack) + bit (test f) ≡ count_by test stack
entries-pop test stack f is = grind (arith, slice_get_cases, last_counts)

-- with one more entry
pub entries-push : (test : Frame → Bool) (stack : List Frame) (f : Frame)
    → count_by test (stack ++ f ∷ []) ≡ count_by test stack + bit (test f)
entries-push test stack f = grind (arith, sum_by-append)
