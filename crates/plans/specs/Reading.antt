-- What one word of a plan means.
use Rattle.std.specs.Prelude.{ℕ, ◌-◌, ◌==◌, ◌||◌, ◌&&◌, not, nat_lt, if◌then◌else◌, Bool, true, false, List, length, take, drop, codes, slice_index, position, bytes_eq, Option, Some, None, Result, Ok, Err}
use Rattle.std.specs.List.{after_first, before_first, position_or_len}
use Rattle.row_code.specs.Answers.{◌>>=◌}
use Rattle.line_reader.specs.Names.{is_name}
use Rattle.plans.specs.declared.{fault.PlanFaultKind.PlanFaultKind, word.Chosen.Chosen, word.Word.Word}
use Rattle.plans.specs.Numbers.{are_digits, count_in, number_in, seed_in}
use Rattle.plans.specs.declared.fault.PlanFaultKind.TheVariants as fault
use Rattle.plans.specs.declared.word.Rule.TheVariants as rule
use Rattle.plans.specs.declared.word.Step.TheVariants as step
use Rattle.plans.specs.declared.word.Word.TheVariants as word

-- a name, or why there is no such thread
abbrev pub Name : Type 0
Name = List ℕ

-- what is said, or what is wrong
abbrev pub Said : Type 0 → Type 0
Said A = Result A PlanFaultKind

-- 42 is the star: what is before it, and what is asked for after it
abbrev pub is_star : ℕ → Bool
is_star byte = byte == 42

abbrev pub stem_of : List ℕ → List ℕ
stem_of bytes = before_first is_star bytes

abbrev pub has_star : List ℕ → Bool
has_star bytes = nat_lt (position_or_len is_star bytes) (length bytes)

-- `(`, `)` and `..`
abbrev pub is_opening : List ℕ → Bool
is_opening stem = bytes_eq stem (codes "(")

abbrev pub is_closing : List ℕ → Bool
is_closing stem = bytes_eq stem (codes ")")

abbrev pub is_turn_about : List ℕ → Bool
is_turn_about stem = bytes_eq stem (codes "..")

-- 63 is the question mark, before a seed
abbrev pub is_seeded : List ℕ → Bool
is_seeded stem = slice_index stem 0 == 63

-- 46 is the dot, after a name
abbrev pub has_dot : List ℕ → Bool
has_dot stem = slice_index stem (length stem - 1) == 46

abbrev pub before_dot : List ℕ → List ℕ
before_dot stem = take (length stem - 1) stem

-- a name and a dot
abbrev pub is_alone : List ℕ → Bool
is_alone stem = has_dot stem && is_name (before_dot stem)

-- what may have a count
abbrev pub may_repeat : List ℕ → Bool
may_repeat stem = is_closing stem || is_turn_about stem || is_seeded stem || is_name stem

-- a word of a plan, by how it is spelled
abbrev pub is_spelled : List ℕ → Bool
is_spelled bytes = may_repeat (stem_of bytes) || (not (has_star bytes) && (is_opening bytes || is_alone bytes))

-- the count, if there is one
abbrev pub times_by : Option ℕ → Said (Option ℕ)
times_by None = Err fault.BadCount
times_by (Some times) = Ok (Some times)

abbrev pub times_in : List ℕ → Said (Option ℕ)
times_in bytes = if has_star bytes then times_by (count_in (after_first is_star bytes)) else Ok None

abbrev pub or_once : Option ℕ → ℕ
or_once None = 1
or_once (Some times) = times

-- a letter and digits: 116 is `t`, 120 is `x`
abbrev pub is_numbered : ℕ → List ℕ → Bool
is_numbered letter name =
    (slice_index name 0 == letter) && are_digits (length name) (drop 1 name)

-- the thread of this number, among so many: a number has one or two digits
abbrev pub numbered_by : ℕ → Bool → Option ℕ → Said Chosen
numbered_by count expiry None = Err fault.NoThread
numbered_by count expiry (Some thread) =
    if nat_lt thread count then Ok (record { thread = thread; expiry = expiry }) else Err fault.NoThread

-- the thread of a name, `x` before a name, or no thread
abbrev pub thread_named : List Name → Name → Option ℕ
thread_named names name = position (λ one. bytes_eq one name) names

abbrev pub expiry_by : Option ℕ → Said Chosen
expiry_by None = Err fault.NotNamed
expiry_by (Some thread) = Ok (record { thread = thread; expiry = true })

abbrev pub begins_expiry : Name → Bool
begins_expiry name = slice_index name 0 == 120

abbrev pub expiry_named : List Name → Name → Said Chosen
expiry_named names name =
    if begins_expiry name then expiry_by (thread_named names (drop 1 name)) else Err fault.NotNamed

abbrev pub named_by : List Name → Name → Option ℕ → Said Chosen
named_by names name (Some thread) = Ok (record { thread = thread; expiry = false })
named_by names name None = expiry_named names name

-- by a number, if no thread has this name
abbrev pub or_numbered : Said Chosen → ℕ → Name → Said Chosen
or_numbered (Ok chosen) count name = Ok chosen
or_numbered (Err why) count name =
    if is_numbered 116 name then numbered_by count false (number_in 2 63 (drop 1 name))
    else (if is_numbered 120 name then numbered_by count true (number_in 2 63 (drop 1 name)) else Err why)

-- whose choice: a name first, then `x` and a name; `t3` and `x3` are numbers if no thread has that name
abbrev pub chosen_by : List Name → Name → Said Chosen
chosen_by names name = or_numbered (named_by names name (thread_named names name)) (length names) name

-- this choice, so many times
abbrev pub make : Option ℕ → Chosen → Said Word
make times chosen =
    Ok (word.Step (step.Make chosen (or_once times)))

-- turns of this thread alone: no dot follows an expiry
abbrev pub alone : Chosen → Said Word
alone chosen =
    if chosen.expiry then Err fault.BadWord else Ok (word.Step (step.Follow (rule.Alone chosen.thread) None))

abbrev pub seeded_by : Option ℕ → Option ℕ → Said Word
seeded_by times None = Err fault.BadSeed
seeded_by times (Some seed) = Ok (word.Step (step.Follow (rule.BySeed seed) times))

-- what a stem means with a count
abbrev pub meaning : List Name → List ℕ → Option ℕ → Said Word
meaning names stem times =
    if is_opening stem then Ok word.Open
    else (if is_closing stem then Ok (word.Close (or_once times))
    else (if is_turn_about stem then Ok (word.Step (step.Follow rule.TurnAbout times))
    else (if is_seeded stem then seeded_by times (seed_in (drop 1 stem))
    else (if has_dot stem then (chosen_by names (before_dot stem) >>= alone)
    else (chosen_by names stem >>= make times)))))

-- what a word means: of its faults the first in the order of their numbers, but `x3.` is reported last
abbrev pub word_of : List Name → List ℕ → Said Word
word_of names bytes =
    if is_spelled bytes then (times_in bytes >>= meaning names (stem_of bytes)) else Err fault.BadWord
