-- The parts that every page has, which `bin/made page` makes of the app.
use Rattle.std.specs.Prelude.{ℕ, List, [], ◌∷◌, flat_map}
use Rattle.page_frame.specs.declared.fixed.TheConstants.{BEFORE_SCHEDULE, BEFORE_SOURCE, BEFORE_TRACE, HEAD, TAIL_1, TAIL_2, TAIL_3, TAIL_4}
use Rattle.pictures.specs.Page.{Parts}

abbrev pub fixed_parts : Parts
fixed_parts = record {
  head = HEAD.now;
  before_source = BEFORE_SOURCE.now;
  before_schedule = BEFORE_SCHEDULE.now;
  before_trace = BEFORE_TRACE.now;
  tail = flat_map (λ (piece : List ℕ). piece) (TAIL_1.now ∷ TAIL_2.now ∷ TAIL_3.now ∷ TAIL_4.now ∷ []);
}
