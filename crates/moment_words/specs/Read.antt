-- What a text that is read can name.
use Rattle.std.specs.Prelude.{◌≤◌, ◌<◌, ⊤}
use Rattle.history_model.specs.declared.TheConstants.{MAX_WALL}
use Rattle.moment_words.specs.declared.meaning.Time.{Time}
use Rattle.moment_words.specs.declared.meaning.Moment.{Moment}
use Rattle.moment_words.specs.declared.meaning.Moment.TheVariants.{Second, Ago, OfToday, OfYesterday, OfDate}

-- a time that a clock can show
abbrev pub IsTime : Time → Type 0
IsTime time = (time.hour < 24) × (time.minute < 60) × (time.second < 60)

abbrev pub IsReadable : Moment → Type 0
IsReadable (Second second) = second ≤ MAX_WALL
IsReadable (Ago seconds) = ⊤
IsReadable (OfToday time) = IsTime time
IsReadable (OfYesterday time) = IsTime time
IsReadable (OfDate date time) = IsTime time
