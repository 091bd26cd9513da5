-- What a command line asks for: its numbers are within the limits, and each of its arguments is the one that its name says.
use Rattle.std.specs.Prelude.{◌≡◌, ◌≢◌, ◌≤◌, ◌+◌, ℕ, List, [], ◌∷◌, Option, Some, None, Bool, true, false, All, IfSome, codes, map, option_map, unwrap_or}
use Rattle.std.specs.{Borrow.Bor, Global.Vec, Str.Parse.digits_value}
use Rattle.clap.specs.Words.{App, Row, Text, all_of, first_of, found_of, is_simple, matches_of, rows_of, subcommand_of}
use Rattle.clap.specs.declared.parser.matches.ArgMatches.{ArgMatches}
use Rattle.command_line.specs.declared.request.{Request.Request, Orders.Orders, Steps.Steps}
use Rattle.command_line.specs.declared.request.Request.TheVariants as request
use Rattle.command_line.specs.declared.request.Steps.TheVariants as steps

-- the seeds are in order, 100,000 at most, and each order has 1,000,000 choices at most
abbrev pub AreInRange : Orders → Type 0
AreInRange orders =
    ((orders.seeds.first ≤ orders.seeds.last) × (orders.seeds.last ≤ orders.seeds.first + 99999))
    × IfSome orders.limit (λ n. (1 ≤ n) × (n ≤ 1000000))

-- its numbers are in their ranges
abbrev pub IsInRange : Request → Type 0
IsInRange (request.Live file limit seed runs expected) = ((1 ≤ limit) × (limit ≤ 1000000000)) × IfSome runs (λ n. (1 ≤ n) × (n ≤ 100000))
IsInRange (request.Draw file steps width) = (60 ≤ width) × (width ≤ 1000)
IsInRange (request.Plan file plan has_names orders) = IfSome orders AreInRange
IsInRange (request.Race parties rounds) = ((1 ≤ parties) × (parties ≤ 16)) × ((1 ≤ rounds) × (rounds ≤ 1000000))
IsInRange _ = Unit {0}

-- the arguments and options that clap has found, by their names
abbrev pub rows_in : ArgMatches → List Row
rows_in matches = rows_of (found_of matches)

-- the argument of this name, if it is given; or empty if it isn't
abbrev pub given : Text → List Row → Option Text
given name rows = first_of name rows

abbrev pub word_of : Text → List Row → Text
word_of name rows = unwrap_or (given name rows) []

-- the arguments of this name, in order
abbrev pub words_of : Text → List Row → List Text
words_of name rows = unwrap_or (all_of name rows) []

-- these words are those arguments
abbrev pub AreWords : Text → List Row → Vec (Bor Text) → Type 0
AreWords name rows words = map (λ w. w.now) words.items ≡ words_of name rows

-- a flag is given: its value is the word `true`
abbrev pub IsFlag : Option Text → Bool → Type 0
IsFlag None true = ⊥
IsFlag None false = Unit {0}
IsFlag (Some text) true = text ≡ codes "true"
IsFlag (Some text) false = text ≢ codes "true"

-- the number that the digits of an option spell, or none without the option
abbrev pub IsNumber : Option Text → Option ℕ → Type 0
IsNumber None number = number ≡ None
IsNumber (Some text) number = number ≡ Some (digits_value 10 text)

-- the choices are those that an argument names, or no such argument is given
abbrev pub AreSteps : List Row → Steps → Type 0
AreSteps rows (steps.Named file) = given (codes "SCHEDULE") rows ≡ Some file.now
AreSteps rows (steps.Trace file) = given (codes "at") rows ≡ Some file.now
AreSteps rows (steps.Plan plan) = given (codes "plan") rows ≡ Some plan.now
AreSteps rows (steps.PlanFile file) = given (codes "plan-file") rows ≡ Some file.now
AreSteps rows steps.Beside =
    (given (codes "SCHEDULE") rows ≡ None) × (given (codes "at") rows ≡ None)
    × (given (codes "plan") rows ≡ None) × (given (codes "plan-file") rows ≡ None)

-- there are orders exactly if seeds are given
abbrev pub AreOrders : List Row → Option Orders → Type 0
AreOrders rows None = given (codes "seeds") rows ≡ None
AreOrders rows (Some orders) = (given (codes "seeds") rows ≢ None)
    × IsNumber (given (codes "limit") rows) orders.limit × AreWords (codes "expect") rows orders.expected

-- a run of this file by these arguments
abbrev pub IsRun : Option (Bor Text) → List Row → Request → Type 0
IsRun file rows (request.Run asked steps expected) =
    (asked ≡ file) × AreSteps rows steps × AreWords (codes "expect") rows expected
IsRun file rows _ = ⊥

-- the commands that have a request of their own; any other is `explain`
abbrev pub command_names : List Text
command_names =
    codes "asm" ∷ codes "list" ∷ codes "run" ∷ codes "compare" ∷ codes "debug" ∷ codes "show"
    ∷ codes "draw" ∷ codes "live" ∷ codes "race" ∷ codes "choices" ∷ codes "plan" ∷ []

-- the request is what the command of this name asks for by these arguments
abbrev pub AsksBy : Text → List Row → Request → Type 0
AsksBy name rows (request.Asm source image) = (name ≡ codes "asm")
    × (source.now ≡ word_of (codes "SRC") rows) × (image.now ≡ word_of (codes "OUT") rows)
AsksBy name rows (request.List file has_rows) = (name ≡ codes "list")
    × (file.now ≡ word_of (codes "FILE") rows) × IsFlag (given (codes "rows") rows) has_rows
AsksBy name rows (request.Run file steps expected) = (name ≡ codes "run")
    × (option_map (λ f. f.now) file ≡ Some (word_of (codes "FILE") rows)) × AreSteps rows steps
    × AreWords (codes "expect") rows expected
AsksBy name rows (request.Compare file trace is_shown) = (name ≡ codes "compare")
    × (file.now ≡ word_of (codes "FILE") rows) × (trace.now ≡ word_of (codes "TRACE") rows)
    × IsFlag (given (codes "show") rows) is_shown
AsksBy name rows (request.Debug file steps) = (name ≡ codes "debug")
    × (file.now ≡ word_of (codes "FILE") rows) × AreSteps rows steps
AsksBy name rows (request.Show file steps) = (name ≡ codes "show")
    × (file.now ≡ word_of (codes "FILE") rows) × AreSteps rows steps
AsksBy name rows (request.Draw file steps width) = (name ≡ codes "draw")
    × (file.now ≡ word_of (codes "FILE") rows) × AreSteps rows steps
    × IsNumber (given (codes "width") rows) (Some width)
AsksBy name rows (request.Live file limit seed runs expected) = (name ≡ codes "live")
    × (file.now ≡ word_of (codes "FILE") rows) × IsNumber (given (codes "limit") rows) (Some limit)
    × IsNumber (given (codes "stir") rows) seed × IsNumber (given (codes "runs") rows) runs
    × AreWords (codes "expect") rows expected
AsksBy name rows (request.Race parties rounds) = (name ≡ codes "race")
    × IsNumber (given (codes "parties") rows) (Some parties)
    × IsNumber (given (codes "rounds") rows) (Some rounds)
AsksBy name rows (request.Choices trace) = (name ≡ codes "choices")
    × (trace.now ≡ word_of (codes "TRACE") rows)
AsksBy name rows (request.Plan file plan has_names orders) = (name ≡ codes "plan")
    × (file.now ≡ word_of (codes "FILE") rows)
    × (option_map (λ p. p.now) plan ≡ given (codes "PLAN") rows)
    × IsFlag (given (codes "names") rows) has_names × AreOrders rows orders
AsksBy name rows (request.Explain words) =
    All (λ other. name ≢ other) command_names × AreWords (codes "WORD") rows words

-- the request is what the arguments ask for: those of a command, or without one a run of standard input
abbrev pub Asks : List Row → Option (Text × List Row) → Request → Type 0
Asks rows None asked = IsRun None rows asked
Asks rows (Some command) asked = AsksBy command.0 command.1 asked

-- the request is what the words of a command line ask for by these commands, if they are simple ones
abbrev pub AsksFor : App → List Text → Request → Type 0
AsksFor app words asked = is_simple app ≡ true → Asks (matches_of app words) (subcommand_of app words) asked
