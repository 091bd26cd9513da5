use Rattle.std.proofs.Common.{◌∙◌, ap, sym}
use Rattle.packed_phaser.specs.Word.{fields_of}
use Rattle.packed_phaser.proofs.WordFields.{word_of, word_of-fields_of, fields_from_record}
use Rattle.packed_phaser.proofs.law.words_of_a_live_record_are_equal.Goals as goal

pub returns : goal.returns
returns c v w is_word is_word' same live =
    let fields = fields_from_record (fields_of v) (fields_of w) is_word.1 is_word'.1 same live in
    sym (word_of-fields_of v is_word.0) ∙ ap word_of fields ∙ word_of-fields_of w is_word'.0
