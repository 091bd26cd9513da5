-- What is written of a trace's choices.
use Rattle.std.proofs.Common.{◌≡◌, ℕ, true, false, List, ◌++◌, Some, None, refl, subst, rules, Option, is_none}
use Rattle.std.proofs.KnownBytes.{Appends-trans}
use Rattle.std.specs.Io.KnownBytes.{Appends}
use Rattle.thread_machine.specs.declared.choice.Choice.{Choice}
use Rattle.trace_compare.specs.{Naming.HasRead, Naming.Naming, Writing.HasWrittenUpTo, Writing.line_by}
use Rattle.commands.specs.Choices.{HasWrittenChoices, written_line}

-- the choices were written, with this answer
abbrev pub Written : Option (List ℕ) → Option (List ℕ) → Option (List ℕ) → Option (List ℕ) → Option ℕ → Type 0
Written a b old new answer =
    (choices : List Choice) × (HasRead a b (record { choices = choices; no_line = answer }) × HasWrittenUpTo (is_none answer) choices old new)

pub whole : (a b old new : Option (List ℕ)) (answer : Option ℕ) → answer ≡ None → Written a b old new answer
    → (naming : Naming) × ((true ≡ is_none naming.no_line) × HasWrittenChoices naming a b old new)
whole a b old new answer is written = search rules

pub none : (a b old mid new : Option (List ℕ)) (answer : Option ℕ) (line : ℕ) → answer ≡ Some line → Written a b old mid answer
    → Appends mid new (written_line (Some line))
    → (naming : Naming) × ((false ≡ is_none naming.no_line) × HasWrittenChoices naming a b old new)
none a b old mid new answer line is written told =
    let (choices, (read, (runs, (all, spelled, joined, text)))) = subst (Written a b old mid) is written in (
      record { choices = choices; no_line = Some line },
      (
        refl,
        (
          read,
          (
            line_by false runs ++ written_line (Some line),
            (
              (runs, (all, spelled, joined, refl)),
              Appends-trans old mid new (line_by false runs) (written_line (Some line)) text told,
            ),
          ),
        ),
      ),
    )
