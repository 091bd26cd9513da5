use Rattle.packed_phaser.specs.Word.{fields_of}
use Rattle.packed_phaser.proofs.WordFields.{Fit-fields_of, IsFlat-record_of_fields}
use Rattle.packed_phaser.proofs.law.each_word_has_a_record.Goals as goal

pub returns : goal.returns
returns c word is_word =
    let fit = Fit-fields_of word in
    let fields = fields_of word in
    IsFlat-record_of_fields fields.unarrived fields.parties fields.phase fields.ended is_word.1 fit.parties fit.phase
