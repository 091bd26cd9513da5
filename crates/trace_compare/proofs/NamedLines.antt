-- What a trace names, line after line.
use Rattle.std.proofs.Common.{◌≡◌, ◌∙◌, ◌⊎◌, inl, inr, ◌+◌, ◌<◌, ◌≤◌, ◌==◌, ◌≢◌, ℕ, true, false, List, [], ◌∷◌, ◌++◌, length, Some, None, Ok, refl, ap, sym, subst, arith, append_assoc, length-append, Option, Result, lt-ltb}
use Rattle.std.proofs.KnownBytes.{Consumes-trans, prepend_known-nil}
use Rattle.std.proofs.lemmas.List.Elements.{All-head, All-tail}
use Rattle.std.proofs.lemmas.List.Splits.{slice_split_at, slice_split_none, slice_split-cons_no, length-slice_split}
use Rattle.std.specs.{Io.KnownBytes.Consumes, Io.KnownBytes.prepend_known, List.slice_split, List.onto_first}
use Rattle.line_reader.specs.Words.{is_line_end}
use Rattle.byte_ports.specs.SourceLines.{Gave, HasCome, IsOneLine, Lines, taken}
use Rattle.byte_ports.specs.declared.source_lines.LineEnded.{LineEnded}
use Rattle.byte_ports.specs.declared.source_lines.LineEnded.TheVariants as how
use Rattle.thread_machine.specs.declared.choice.Choice.{Choice}
use Rattle.trace_text.specs.{Reading.is_too_long, RunText.GivesOnAndOn}
use Rattle.trace_compare.specs.declared.{line_names.LineNames.LineNames, naming.NextName.NextName}
use Rattle.trace_compare.specs.NamedLines.{HasEnded, HasGone, HasTaken, NamesFrom, last_naming, next_by, none_read}
use Rattle.trace_compare.specs.Naming.{HasNamed, HasRead, Naming, Names, behind_choices, choices_or_line, ended, line_names, naming_by, naming_from, naming_of}
use Rattle.trace_compare.specs.declared.line_names.LineNames.TheVariants as names
use Rattle.trace_compare.specs.declared.naming.NextName.TheVariants as next

-- ---- one line

-- a whole line
pub whole-line : (line rest : List ℕ) → IsOneLine line
    → slice_split is_line_end ((line ++ 10 ∷ []) ++ rest) ≡ line ∷ slice_split is_line_end rest
whole-line line rest one = grind (arith, append_assoc, slice_split_at)

names-line : (line : List ℕ) (lines : List (List ℕ)) (n : ℕ) (is : LineNames) → line_names line ≡ is
    → naming_from n (line ∷ lines) ≡ naming_by is n (naming_from (n + 1) lines)
names-line line lines n is same = ap (λ named. naming_by named n (naming_from (n + 1) lines)) same

long-names : (line : List ℕ) → 65536 < length line → line_names line ≡ names.Nothing
long-names line many = let long : is_too_long line ≡ true = lt-ltb 65536 (length line) many in rw long refl

-- the first line of a text that begins with these bytes
pub split_some : (ys : List ℕ) → (h : List ℕ) × ((t : List (List ℕ)) × (slice_split is_line_end ys ≡ h ∷ t))
split_some ys = first_of_some (slice_split is_line_end ys) (omega (arith, length-slice_split is_line_end ys))
  where
    first_of_some : (pieces : List (List ℕ)) → 0 < length pieces → (h : List ℕ) × ((t : List (List ℕ)) × (pieces ≡ h ∷ t))
    first_of_some [] some = absurd (omega (arith, some))
    first_of_some (h ∷ t) some = (h, (t, refl))

pub begun-line : (xs ys : List ℕ) → IsOneLine xs
    → (h : List ℕ) × ((t : List (List ℕ)) × (slice_split is_line_end (xs ++ ys) ≡ (xs ++ h) ∷ t))
begun-line [] ys one = split_some ys
begun-line (x ∷ xs) ys one =
    let test = λ (b : ℕ). (b == 10) ≡ false in
    let (h, (t, is)) = begun-line xs ys (All-tail test x xs one) in
    (h, (t, slice_split-cons_no is_line_end x (xs ++ ys) (All-head test x xs one) ∙ ap (onto_first x) is))

-- a line that names a choice, and isn't the last
pub line-made : (ended : LineEnded) (line : List ℕ) {choice : Choice} {n : ℕ} {before after : Lines} {a b : Option (List ℕ)}
    → IsOneLine line → HasCome ended line (prepend_known after.held b) → next_by (line_names line) ended ≡ next.Made choice
    → Consumes (prepend_known before.held a) (prepend_known after.held b) (taken (Ok ended) line)
    → (ended ≢ how.AtEnd → Gave before after (length (taken (Ok ended) line))) → HasTaken n (choice ∷ []) (n + 1) before after a b
line-made ended line one came is gone gave = grind (arith, length-append, whole-line, names-line, long-names)

-- the line that ends them, by what it names
by_end : (is : LineNames) (n : ℕ) → naming_by is n (ended (Some (n + 1))) ≡ last_naming (next_by is how.AtEnd) n
by_end is n = grind arith

pub line-last : (ended : LineEnded) (line : List ℕ) {n : ℕ} {before after : Lines} {a b : Option (List ℕ)}
    → IsOneLine line → HasCome ended line (prepend_known after.held b)
    → ((choice : Choice) → next_by (line_names line) ended ≢ next.Made choice)
    → Consumes (prepend_known before.held a) (prepend_known after.held b) (taken (Ok ended) line)
    → HasEnded n (last_naming (next_by (line_names line) ended) n) before after a b
line-last how.Whole line one came none gone = grind (arith, whole-line)
line-last how.AtEnd line one came none gone = grind (arith, slice_split_none, by_end)
line-last how.TooLong line {n} one came none gone =
    let nothing : line_names line ≡ names.Nothing = long-names line (omega (arith, came)) in
    record {
      bytes = line;
      gone = gone;
      names = inr (λ rest.
          let (h, (t, split)) = begun-line line rest one in
          let long : line_names (line ++ h) ≡ names.Nothing = long-names (line ++ h) (omega (arith, came, length-append line h)) in
          ap (naming_from n) split ∙ names-line (line ++ h) t n names.Nothing long
          ∙ ap (λ (i : LineNames). last_naming (next_by i how.TooLong) n) (sym nothing));
    }

-- ---- line after line

behind-both : (one two : List Choice) (rest : Naming) → behind_choices one (behind_choices two rest) ≡ behind_choices (one ++ two) rest
behind-both one two rest = ap (λ cs. record { choices = cs; no_line = rest.no_line }) (sym (append_assoc one two rest.choices))

-- a line more
pub taken-more : {n next last : ℕ} {choices more : List Choice} {x y z : Lines} {a b c : Option (List ℕ)}
    → HasTaken n choices next x y a b → HasTaken next more last y z b c → HasTaken n (choices ++ more) last x z a c
taken-more {n} {next} {last} {choices} {more} one two = record {
  bytes = one.bytes ++ two.bytes;
  gone = (
    Consumes-trans _ _ _ one.bytes two.bytes one.gone.0 two.gone.0,
    omega (arith, one.gone.1, two.gone.1, length-append one.bytes two.bytes),
  );
  many = omega (arith, one.many, two.many, length-append one.bytes two.bytes);
  names = λ rest. ap (λ bytes. naming_from n (slice_split is_line_end bytes)) (append_assoc one.bytes two.bytes rest) ∙ one.names (two.bytes ++ rest)
      ∙ ap (behind_choices choices) (two.names rest) ∙ behind-both choices more (naming_from last (slice_split is_line_end rest));
}

-- what was taken, and what is held
pub unread : (before left : Option (List ℕ)) (bytes held : List ℕ) → Consumes before (prepend_known held left) bytes
    → Consumes before left (bytes ++ held)
unread before left bytes held p = grind (arith, append_assoc)

none_left : (xs ys : List ℕ) → xs ++ ys ≡ [] → (xs ≡ []) × (ys ≡ [])
none_left [] ys e = (refl, e)
none_left (x ∷ xs) ys e = let no : ⊥ = cc in absurd no

-- with what is held, the same is named
read-held : (before left : Option (List ℕ)) (bytes held : List ℕ) (naming : Naming)
    → Consumes before (prepend_known held left) bytes → Names 1 bytes (prepend_known held left) naming → HasRead before left naming
read-held before left bytes held naming gone (inr same) = (
  bytes ++ held,
  (
    unread before left bytes held gone,
    inr (λ rest. ap naming_of (append_assoc bytes held rest) ∙ same (held ++ rest)),
  ),
)
read-held None None bytes held naming gone (inl (end, same)) = (bytes, (tt, inl (tt, same)))
read-held None (Some ys) bytes held naming gone (inl (end, same)) = grind (arith, none_left)
read-held (Some xs) None bytes held naming gone (inl (end, same)) = absurd gone
read-held (Some xs) (Some ys) bytes held naming gone (inl (end, same)) = grind (arith, none_left)

names-behind : (one two : List ℕ) (choices : List Choice) (n : ℕ) (left : Option (List ℕ)) (naming : Naming)
    → NamesFrom 1 one choices n → Names n two left naming → Names 1 (one ++ two) left (behind_choices choices naming)
names-behind one two choices n left naming names given = grind (arith, append_assoc)

-- the lines to the end
pub taken-all : {n : ℕ} {choices : List Choice} {naming : Naming} {y z : Lines} {a b c : Option (List ℕ)}
    → HasTaken 1 choices n none_read y a b → HasEnded n naming y z b c → HasRead a c (behind_choices choices naming)
taken-all {n} {choices} {naming} {y} {z} {a} {b} {c} one two =
    subst (λ o. HasRead o c (behind_choices choices naming)) (prepend_known-nil a)
    (read-held (prepend_known [] a) c (one.bytes ++ two.bytes) z.held (behind_choices choices naming)
    (Consumes-trans _ _ _ one.bytes two.bytes one.gone.0 two.gone)
    (names-behind one.bytes two.bytes choices n (prepend_known z.held c) naming one.names two.names))

pub taken-named : {n : ℕ} {choices : List Choice} (name : NextName) {y z : Lines} {a b c : Option (List ℕ)} (is : Result (List Choice) ℕ)
    → HasTaken 1 choices n none_read y a b → HasEnded n (last_naming name n) y z b c
    → choices_or_line (choices ++ (last_naming name n).choices) (last_naming name n).no_line ≡ is → HasNamed a c is
taken-named {n} {choices} name is taken end same =
    (behind_choices choices (last_naming name n), (taken-all taken end, sym same))

-- a source that gives on and on
pub gone-on : (bytes : List ℕ) (y z : Lines) (a b c : Option (List ℕ)) → HasGone bytes none_read y a b → HasGone [] y z b c
    → z.reads ≡ 1000000000 → GivesOnAndOn a c
gone-on bytes y z a b c gone on most =
    subst (λ o. GivesOnAndOn o c) (prepend_known-nil a) (
      (bytes ++ []) ++ z.held,
      (
        unread (prepend_known [] a) c (bytes ++ []) z.held (Consumes-trans _ _ _ bytes [] gone.0 on.0),
        omega (arith, gone.1, on.1, most, length-append (bytes ++ []) z.held, length-append bytes []),
      ),
    )

pub gone-lines : (bytes : List ℕ) (y : Lines) (a b : Option (List ℕ)) → HasGone bytes none_read y a b → 1000000000 ≤ length bytes
    → GivesOnAndOn a b
gone-lines bytes y a b gone most = grind (arith, unread, length-append)

pub taken-on : {n : ℕ} {choices : List Choice} {y : Lines} (z : Lines) {a b : Option (List ℕ)} (c : Option (List ℕ))
    → HasTaken 1 choices n none_read y a b → HasGone [] y z b c → z.reads ≡ 1000000000 → GivesOnAndOn a c
taken-on {n} {choices} {y} z {a} {b} c one on most = gone-on one.bytes y z a b c one.gone on most

pub taken-lines : {n : ℕ} {choices : List Choice} {y : Lines} {a b : Option (List ℕ)}
    → HasTaken 1 choices n none_read y a b → 1000000001 ≤ n → GivesOnAndOn a b
taken-lines {n} {choices} {y} {a} {b} one most = gone-lines one.bytes y a b one.gone (omega (arith, one.many, most))

pub or_else : {F G H : Type 0} → F ⊎ H → (H → G) → F ⊎ G
or_else given turn = grind arith
