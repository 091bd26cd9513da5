-- Texts of lists, element by element.
use Rattle.std.proofs.Common.{◌≡◌, ◌∙◌, ◌+◌, ◌*◌, ◌<◌, ◌≤◌, ℕ, ℤ, List, ◌++◌, codes, length, length-append, get_or, drop, refl, ap, sym, arith, append_assoc, append-nil, flat_map, slice_get, Option, Some, None}
use Rattle.std.proofs.lemmas.{List.drop_all, List.drop_more, Option.slice_get_within, Option.get_or_from_slice_get}
use Rattle.std.specs.{Fmt.signed_decimal, Option.option_map}
use Rattle.thread_state.specs.{declared.frame.Entry.Entry, declared.frame.Frame.Frame, Frame.entry_of}
use Rattle.trace_text.specs.State.{entry_text, stack_text, numbered_texts, value_text}

-- from one element on: its text, and the texts from the next on
pub flat_map-drop : {A B : Type 0} (text : A → List B) (xs : List A) (i : ℕ) (d : A) → i < length xs
    → flat_map text (drop i xs) ≡ text (get_or xs i d) ++ flat_map text (drop (i + 1) xs)
flat_map-drop text xs i d there = ap (flat_map text) (drop_more xs i d there)

-- the same where each text begins with its number
pub numbered_texts-drop : {A : Type 0} (text : ℕ → A → List ℕ) (xs : List A) (i : ℕ) (d : A) → i < length xs
    → numbered_texts text i (drop i xs) ≡ text i (get_or xs i d) ++ numbered_texts text (i + 1) (drop (i + 1) xs)
numbered_texts-drop text xs i d there = ap (numbered_texts text i) (drop_more xs i d there)

pub ruleset text_steps = (flat_map-drop, numbered_texts-drop)

-- one text more was written, the first of the rest
pub one_text_more : (now next start one rest more all : List ℕ) → next ≡ now ++ one → rest ≡ one ++ more
    → now ++ rest ≡ start ++ all → next ++ more ≡ start ++ all
one_text_more now next start one rest more all is first before = grind (arith, append_assoc)

-- the same of a list whose texts begin with their numbers
pub one_numbered_more : {A : Type 0} (text : ℕ → A → List ℕ) (xs : List A) (i : ℕ) (d : A) (now next start : List ℕ) → i < length xs
    → next ≡ now ++ text i (get_or xs i d) → now ++ numbered_texts text i (drop i xs) ≡ start ++ numbered_texts text 0 xs
    → next ++ numbered_texts text (i + 1) (drop (i + 1) xs) ≡ start ++ numbered_texts text 0 xs
one_numbered_more text xs i d now next start there is before = grind (arith, one_text_more, numbered_texts-drop)

-- all of them are written where none is left
pub all_numbered : {A : Type 0} (text : ℕ → A → List ℕ) (xs : List A) (i : ℕ) (now start : List ℕ) → length xs ≤ i
    → now ++ numbered_texts text i (drop i xs) ≡ start ++ numbered_texts text 0 xs → now ≡ start ++ numbered_texts text 0 xs
all_numbered text xs i now start enough before =
    sym (append-nil now) ∙ ap (λ rest. now ++ numbered_texts text i rest) (sym (drop_all i xs enough)) ∙ before

-- the same of texts without numbers
pub all_written : {A B : Type 0} (text : A → List B) (xs : List A) (i : ℕ) (now start : List B) → length xs ≤ i
    → now ++ flat_map text (drop i xs) ≡ start ++ flat_map text xs → now ≡ start ++ flat_map text xs
all_written text xs i now start enough before =
    sym (append-nil now) ∙ ap (λ rest. now ++ flat_map text rest) (sym (drop_all i xs enough)) ∙ before

-- what one number more adds to the length of what is written
pub one_value_more : (values : List ℤ) (i : ℕ) (d : ℤ) → i < length values → length (signed_decimal (get_or values i d)) ≤ 11
    → length (flat_map value_text values) ≤ 12 * i + length (flat_map value_text (drop i values))
    → length (flat_map value_text values) ≤ 12 * (i + 1) + length (flat_map value_text (drop (i + 1) values))
one_value_more values i d there short few =
    let rest = flat_map value_text (drop (i + 1) values) in
    let is = ap length (flat_map-drop value_text values i d there) in
    omega (arith, is, length-append (value_text (get_or values i d)) rest, length-append (codes " ") (signed_decimal (get_or values i d)), short, few)

-- from one stack entry on, by what the machine shows of it
stack_text-drop_by : (stack : List Frame) (i : ℕ) (entry : Entry) (read : Option Frame) → slice_get stack i ≡ read
    → option_map entry_of read ≡ Some entry
    → stack_text (drop i stack) ≡ entry_text entry ++ stack_text (drop (i + 1) stack)
stack_text-drop_by stack i entry None there same = cc
stack_text-drop_by stack i entry (Some frame) there same =
    let within = slice_get_within stack i frame there in
    let is : get_or stack i frame ≡ frame = get_or_from_slice_get stack i frame frame there in
    let shown : entry_of frame ≡ entry = cc in
    flat_map-drop (λ (f : Frame). entry_text (entry_of f)) stack i frame within
    ∙ ap (λ e. entry_text e ++ stack_text (drop (i + 1) stack)) (ap entry_of is ∙ shown)

pub stack_text-drop : (stack : List Frame) (i : ℕ) (entry : Entry)
    → option_map entry_of (slice_get stack i) ≡ Some entry
    → stack_text (drop i stack) ≡ entry_text entry ++ stack_text (drop (i + 1) stack)
stack_text-drop stack i entry same = stack_text-drop_by stack i entry (slice_get stack i) refl same

-- one entry more is written
pub one_entry_more : (stack : List Frame) (i : ℕ) (entry : Entry) (now next start : List ℕ)
    → option_map entry_of (slice_get stack i) ≡ Some entry → next ≡ now ++ entry_text entry
    → now ++ stack_text (drop i stack) ≡ start ++ stack_text stack
    → next ++ stack_text (drop (i + 1) stack) ≡ start ++ stack_text stack
one_entry_more stack i entry now next start there is before =
    one_text_more now next start (entry_text entry) (stack_text (drop i stack)) (stack_text (drop (i + 1) stack))
    (stack_text stack) is (stack_text-drop stack i entry there) before
