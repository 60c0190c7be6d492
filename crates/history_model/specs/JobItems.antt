-- What happens to one job, as the item that its past grows by.
use Rattle.history_model.specs.declared.event.JobItem.{JobItem}
use Rattle.history_model.specs.declared.event.JobItem.TheVariants as happens
use Rattle.history_model.specs.Items.{Item, Asked, Came, Left, Answered, RunEnded, WaitRefused}

-- the item that it is
abbrev pub item_of : JobItem → Item
item_of (happens.Asked ask) = Asked ask
item_of (happens.Came conn) = Came conn
item_of (happens.Left conn) = Left conn
item_of (happens.Answered answer) = Answered answer
item_of (happens.Ended run how) = RunEnded run how
item_of (happens.WaitRefused run) = WaitRefused run
