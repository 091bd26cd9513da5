use Rattle.std.proofs.Common.{◌∙◌, ◌≤◌, ap, subst, sym, max}
use Rattle.packed_phaser.specs.{declared.word.Fields.Fields, Word.record_of_fields}
use Rattle.packed_phaser.proofs.WordFields.{word_of, word_of-bound, fields_of-word_of, fields_for, Fit-fields_for, fields_for-unarrived, record_of_fields-for}
use Rattle.packed_phaser.proofs.law.each_record_has_a_word.Goals as goal

pub returns : goal.returns
returns c f is_flat =
    let fields = fields_for f in
    let fit = Fit-fields_for f is_flat in
    let same = fields_of-word_of fields fit in
    let few = fields_for-unarrived f.parties f.arrived f.ended f.turned in
    let IsInRange : Fields → Type 0 = λ g. g.unarrived ≤ max g.parties 1 in
    (word_of fields, ((word_of-bound fields fit, subst IsInRange (sym same) few), ap record_of_fields same ∙ record_of_fields-for f is_flat))
