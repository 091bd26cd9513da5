use Rattle.std.proofs.Common.{◌∙◌, ◌+◌, inr, sym, true, Err, Ok}
use Rattle.schedule_reader.specs.{declared.place.Place.TheVariants.Between, Places.schedule_from}
use Rattle.schedule_reader.proofs.Streams.{blank, plain}
use Rattle.schedule_reader.proofs.few.after_byte.Goals as goal

pub returns-in-Err-clause-left : goal.returns-in-Err-clause-left
returns-in-Err-clause-left c = λ rest.
    inr (blank true c.args.place c.args.at c.args.byte rest (sym c.if-is_blank.ensures)
    ∙ c.in-Err.ensures.piece (schedule_from true Between (c.args.at + 1) rest))

pub returns-in-Ok-with_byte-clause-left : goal.returns-in-Ok-with_byte-clause-left
returns-in-Ok-with_byte-clause-left c = λ rest.
    plain true c.args.place c.args.at c.args.byte rest (Ok c.in-Ok-with_byte.next) (sym c.if-is_blank.ensures)
    c.in-Ok-with_byte.ensures.reading c.in-Ok-with_byte.ensures.inside

pub returns-in-Err-with_byte-clause-left : goal.returns-in-Err-with_byte-clause-left
returns-in-Err-with_byte-clause-left c = λ rest.
    plain true c.args.place c.args.at c.args.byte rest (Err c.in-Err-with_byte.fault) (sym c.if-is_blank.ensures)
    c.in-Err-with_byte.ensures.reading tt
