-- A trace is found the same exactly if it is the trace of the choices that its lines name: these are choices of threads from 0 to 63.
use Rattle.std.proofs.Common.{◌≡◌, ◌∙◌, ◌+◌, ◌-◌, ◌*◌, ◌≤◌, ◌==◌, ℕ, Bool, true, false, List, [], ◌∷◌, All, Some, None, refl, ap, sym, arith, if◌then◌else◌, ◌&&◌, ◌↔◌, nat_le, Option, IfSome}
use Rattle.std.proofs.lemmas.{Bool.Decides.nat_tests, List.Elements.All-cons, List.Elements.All-nil}
use Rattle.std.specs.{Char.is_ascii_digit, List.after_first, List.before_first, List.slice_split}
use Rattle.line_reader.specs.Words.{is_line_end}
use Rattle.row_code.specs.declared.image.Image.{Image}
use Rattle.thread_machine.specs.{World.World, World.IsFirstOf, declared.choice.Choice.Choice}
use Rattle.trace_text.specs.Reading.{choice_by, choice_in, choice_named, choice_of_digits, is_space, is_state_line, is_step}
use Rattle.trace_text.specs.Trace.{trace_of}
use Rattle.trace_compare.proofs.{OwnTrace.IsNamed, OwnTrace.own-trace, OneTrace.trace-first, SameTrace.same-trace}
use Rattle.trace_compare.specs.Compare.{choices_in, choices_of_trace, verdict_of, with_choice}
use Rattle.trace_compare.specs.declared.comparison.Verdict.TheVariants as verdict
use Rattle.headline.specs.Headline.{start}

either : (test : Bool) (a b : Option Choice) → IfSome a IsNamed → IfSome b IsNamed → IfSome (if test then a else b) IsNamed
either true a b first second = first
either false a b first second = second

if_small : (test : Bool) (expiry : Bool) (thread : ℕ) → (test ≡ true → thread ≤ 63)
    → IfSome (if test then Some (record { thread = thread; expiry = expiry }) else None) IsNamed
if_small true expiry thread few = few refl
if_small false expiry thread few = tt

small : (are : Bool) (thread : ℕ) → (are && nat_le thread 63) ≡ true → thread ≤ 63
small true thread is = grind (arith, nat_tests)
small false thread is = absurd (cc is)

named_by : (expiry are : Bool) (thread : ℕ) → IfSome (choice_by expiry are thread) IsNamed
named_by expiry are thread = if_small (are && nat_le thread 63) expiry thread (small are thread)

named_digits : (expiry : Bool) (digits : List ℕ) → IfSome (choice_of_digits expiry digits) IsNamed
named_digits expiry [] = tt
named_digits expiry (one ∷ []) = named_by expiry (is_ascii_digit one) (one - 48)
named_digits expiry (ten ∷ one ∷ []) = named_by expiry (is_ascii_digit ten && is_ascii_digit one) (10 * (ten - 48) + (one - 48))
named_digits expiry (a ∷ b ∷ c ∷ more) = tt

named_word : (word : List ℕ) → IfSome (choice_named word) IsNamed
named_word [] = tt
named_word (letter ∷ digits) =
    either (letter == 116) (choice_of_digits false digits) (if letter == 120 then choice_of_digits true digits else None)
    (named_digits false digits)
    (either (letter == 120) (choice_of_digits true digits) None (named_digits true digits) tt)

named_line : (line : List ℕ) → IfSome (choice_in line) IsNamed
named_line line =
    let word = before_first is_space (after_first is_space line) in
    either (is_step (before_first is_space line)) (choice_named word) None (named_word word) tt

with_named : (named : Option Choice) (choices : List Choice) → IfSome named IsNamed → All IsNamed choices
    → All IsNamed (with_choice named choices)
with_named None choices is are = All-nil IsNamed
with_named (Some choice) choices is are = All-cons IsNamed choice choices is are

unless : (test : Bool) (choices : List Choice) → All IsNamed choices → All IsNamed (if test then [] else choices)
unless true choices are = All-nil IsNamed
unless false choices are = are

named_lines : (lines : List (List ℕ)) → All IsNamed (choices_in lines)
named_lines [] = All-nil IsNamed
named_lines (line ∷ lines) =
    unless (is_state_line line) (with_choice (choice_in line) (choices_in lines))
    (with_named (choice_in line) (choices_in lines) (named_line line) (named_lines lines))

pub same_alone : (image : Image) (first : World) (trace : List ℕ) → IsFirstOf image 1000000000 first
    → (verdict_of first trace ≡ verdict.Same) ↔ (trace ≡ trace_of (start image) (choices_of_trace trace))
same_alone image first trace is =
    let same : trace_of first (choices_of_trace trace) ≡ trace_of (start image) (choices_of_trace trace) =
    trace-first image 1000000000 first (choices_of_trace trace) is in
    let none : first.choices ≡ 0 = ap (λ (world : World). world.choices) is in (
      λ verdict_is. same-trace first trace verdict_is ∙ same,
      λ traced. ap (verdict_of first) (traced ∙ sym same)
          ∙ own-trace (choices_of_trace trace) first 1 (omega (arith, none)) (named_lines (slice_split is_line_end trace)),
    )
