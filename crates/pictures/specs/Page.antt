-- The page of a run: its fixed parts, and between them the program, its text, the schedule, and the trace.
use Rattle.std.specs.Prelude.{◌≡◌, ◌≤◌, ◌<◌, ℕ, ◌==◌, ◌||◌, not, Bool, if◌then◌else◌, List, [], ◌∷◌, ◌++◌, length, codes, flat_map}
use Rattle.std.specs.Borrow.{Bor}
use Rattle.line_reader.specs.Listing.{canonical}
use Rattle.row_code.specs.declared.image.Image.{Image}
use Rattle.pictures.specs.{Choices.AreRunsOf, Choices.most_page_choices, declared.frame.Frame.Frame}
use Rattle.schedule_reader.specs.{declared.run.Run.Run, Schedule.choices_of, Text.schedule_text}
use Rattle.thread_machine.specs.World.{World}
use Rattle.trace_text.specs.{Start.Begins, Trace.trace_of}

-- a byte as a page has it: `&`, `<`, `>` and CR as entities, and each other byte as it is
abbrev pub escaped_byte : ℕ → List ℕ
escaped_byte byte =
    if byte == 38 then codes "&amp;" else (if byte == 60 then codes "&lt;" else (if byte == 62 then codes "&gt;"
    else (if byte == 13 then codes "&#13;" else byte ∷ [])))

abbrev pub escaped : List ℕ → List ℕ
escaped text = flat_map escaped_byte text

-- the byte neither begins nor ends a tag
abbrev pub is_in_no_tag : ℕ → Bool
is_in_no_tag byte = not ((byte == 60) || (byte == 62))

-- the parts that every page has
pub record Parts : Type 0 where
  pub head : List ℕ
  pub before_source : List ℕ
  pub before_schedule : List ℕ
  pub before_trace : List ℕ
  pub tail : List ℕ

abbrev pub parts_of : Frame → Parts
parts_of frame = record {
  head = frame.head.now;
  before_source = frame.before_source.now;
  before_schedule = frame.before_schedule.now;
  before_trace = frame.before_trace.now;
  tail = flat_map (λ (piece : Bor (List ℕ)). piece.now) frame.tail;
}

-- the fixed parts, and between them the listing of a program, its text, a schedule, and the trace of its choices
abbrev pub page_text : Parts → List ℕ → List ℕ → List ℕ → List ℕ → List ℕ
page_text parts listing source schedule trace =
    parts.head ++ (escaped listing ++ (parts.before_source ++ (escaped source ++ (parts.before_schedule ++ (escaped schedule
    ++ (parts.before_trace ++ (escaped trace ++ parts.tail)))))))

-- the most bytes of a page's trace
abbrev pub most_trace : ℕ
most_trace = 16777216

-- the page of an image's program, with its text, its schedule and its trace, which is what `run` writes; there is room for the
-- schedule's choices and for the trace
abbrev pub IsPageIn : Parts → Image → List ℕ → List ℕ → List ℕ → Type 0
IsPageIn parts image source schedule page =
    (world : World) × ((runs : List Run) × (Begins image world × AreRunsOf schedule runs
    × (length (choices_of runs) ≤ most_page_choices) × (length (trace_of world (choices_of runs)) ≤ most_trace)
    × (page ≡ page_text parts (canonical image) source (schedule_text runs) (trace_of world (choices_of runs)))))

-- a schedule has no fault, and its trace is longer than a page's may be
abbrev pub HasLongTrace : Image → List ℕ → Type 0
HasLongTrace image schedule =
    (world : World) × ((runs : List Run) × (Begins image world × AreRunsOf schedule runs
    × (most_trace < length (trace_of world (choices_of runs)))))
