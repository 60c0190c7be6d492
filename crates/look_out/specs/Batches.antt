-- The questions of a series of path checks, in the order in which they were asked.
use Rattle.std.specs.Prelude.{◌≡◌, ◌<◌, ℕ, List, length, slice_index_or, slice_set}
use Rattle.look_out.specs.declared.batch.Entry.{Entry}
use Rattle.look_out.specs.declared.batch.Seen.{Seen}

-- this became of the question at this place, and nothing else changed
pub record IsDecidedAt (place : ℕ) (seen : Seen) (old new : List Entry) : Type 0 where
  pub entry : Entry
  pub there : entry ≡ slice_index_or old place entry
  pub within : place < length old
  pub same : new ≡ slice_set old place (record entry { seen = seen })
