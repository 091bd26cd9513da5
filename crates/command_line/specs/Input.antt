-- What is left of an input.
use Rattle.std.specs.Prelude.{Option, Some, ℕ, List}
use Rattle.command_line.specs.declared.ports.input.InputOf.{InputOf, TheVariants.File, TheVariants.Standard, TheVariants.Text}

-- what its reader tells; a text tells all its bytes
abbrev pub left_of : {F S : Type 0} → (F → Option (List ℕ)) → (S → Option (List ℕ)) → InputOf F S → Option (List ℕ)
left_of of_file of_standard (File file) = of_file file
left_of of_file of_standard (Standard standard) = of_standard standard
left_of of_file of_standard (Text text) = Some text.now
