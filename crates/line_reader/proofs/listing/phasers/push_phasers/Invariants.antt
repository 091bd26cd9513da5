use Rattle.std.proofs.Common.{◌≡◌, ◌++◌, drop}
use Rattle.std.specs.List.{flat_map}
use Rattle.line_reader.specs.Listing.{line_text, numbered, phaser_words}
use Rattle.line_reader.proofs.listing.phasers.push_phasers.Given as goal

abbrev pub invariant-loop-n : goal.invariant-loop-n
invariant-loop-n l =
    l.text.items ++ flat_map line_text (numbered phaser_words l.n (drop l.n l.phasers))
    ≡ l.initial.text.items ++ flat_map line_text (numbered phaser_words 0 l.phasers)
