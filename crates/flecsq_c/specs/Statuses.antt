-- What the calls answer, as numbers.
use Rattle.std.specs.Prelude.{ℕ, Bool, true, false, ℤ, pos, Option, None, Some, Result, Ok, Err}
use Rattle.ecs_observe.specs.declared.errors.SessionError.{SessionError}
use Rattle.ecs_observe.specs.declared.errors.SessionError.TheVariants.{Refused}
use Rattle.ecs_observe.specs.declared.errors.SessionError.TheVariants as session
use Rattle.ecs_observe.specs.declared.errors.SetColumnError.{SetColumnError}
use Rattle.ecs_observe.specs.declared.errors.SetColumnError.TheVariants.{EventsPending, Watched, OfWorld}
use Rattle.ecs_world.specs.declared.columns.ColumnFault.TheVariants.{Gone, NotHeld, NoData, Brings, Size, Full}
use Rattle.world_rows.specs.declared.matcher.MatchError.{MatchError}
use Rattle.world_rows.specs.declared.matcher.MatchError.TheVariants as match
use Rattle.world_script.specs.declared.errors.RunError.{RunError}
use Rattle.world_script.specs.declared.errors.RunError.TheVariants as run
use Rattle.world_script.specs.declared.lines.Summary.{Summary}
use Rattle.world_script.specs.declared.errors.StepError.{StepError}
use Rattle.world_script.specs.declared.errors.StepError.TheVariants.{LineFeed, Memory, TooManyLines}
use Rattle.flecsq_c.specs.declared.asking.AskError.{AskError}
use Rattle.flecsq_c.specs.declared.asking.AskError.TheVariants as ask

abbrev pub ok : ℤ
ok = pos 0

abbrev pub refused : ℤ
refused = pos 1

abbrev pub memory : ℤ
memory = pos 2

abbrev pub closed : ℤ
closed = pos 3

abbrev pub unknown : ℤ
unknown = pos 4

abbrev pub room : ℤ
room = pos 5

abbrev pub too_long : ℤ
too_long = pos 6

abbrev pub line_feed : ℤ
line_feed = pos 7

abbrev pub number : ℤ
number = pos 8

abbrev pub stale : ℤ
stale = pos 9

abbrev pub no_this : ℤ
no_this = pos 10

abbrev pub not_tabled : ℤ
not_tabled = pos 11

abbrev pub dead : ℤ
dead = pos 12

abbrev pub gone : ℤ
gone = pos 13

abbrev pub not_held : ℤ
not_held = pos 14

abbrev pub no_data : ℤ
no_data = pos 15

abbrev pub watched : ℤ
watched = pos 16

abbrev pub brings : ℤ
brings = pos 17

abbrev pub size : ℤ
size = pos 18

abbrev pub full : ℤ
full = pos 19

-- of a line
abbrev pub line_status : Result Bool StepError → ℤ
line_status (Ok true) = refused
line_status (Ok false) = ok
line_status (Err LineFeed) = line_feed
line_status (Err Memory) = memory
line_status (Err TooManyLines) = too_long

-- of a script. A read of memory doesn't fail
abbrev pub run_status : Result Summary RunError → ℤ
run_status (Ok summary) = ok
run_status (Err run.Memory) = memory
run_status (Err run.Write) = room
run_status (Err run.TooLong) = too_long
run_status (Err run.Read) = memory

-- of a command
abbrev pub command_status : {T : Type 0} → Result T SessionError → ℤ
command_status (Ok answer) = ok
command_status (Err (Refused reason)) = refused
command_status (Err session.Memory) = memory

-- of a query's text
abbrev pub ask_status : Result ℕ AskError → ℤ
ask_status (Ok _) = ok
ask_status (Err ask.NotText) = refused
ask_status (Err ask.Faulty) = refused
ask_status (Err ask.NoThis) = no_this
ask_status (Err ask.Memory) = memory

-- of a query and an entity
abbrev pub match_status : Result Bool MatchError → ℤ
match_status (Ok is) = ok
match_status (Err match.NoThis) = no_this
match_status (Err match.Dead) = dead
match_status (Err match.Memory) = memory

-- of values that are set, where there may be a reason why they aren't. Events wait only where memory was refused before
abbrev pub column_status : Option SetColumnError → ℤ
column_status None = ok
column_status (Some EventsPending) = memory
column_status (Some Watched) = watched
column_status (Some (OfWorld Gone)) = gone
column_status (Some (OfWorld NotHeld)) = not_held
column_status (Some (OfWorld NoData)) = no_data
column_status (Some (OfWorld Brings)) = brings
column_status (Some (OfWorld Size)) = size
column_status (Some (OfWorld Full)) = full
