-- What the helper that reports exits leaves to be asked of the system.
use Rattle.std.specs.Prelude.{Bool, true, false}
use Rattle.child_edge.specs.declared.waking.Watch.{Watch}
use Rattle.child_edge.specs.declared.waking.Watch.TheVariants.{Unsent, Sent, Due}

-- A pass in which all are asked asks about each child. Any other asks about each that the helper was not sent, about each whose
-- exit it reported, and about each that has exited or whose wait was refused.
abbrev pub is_asked_in : Bool → Watch → Bool
is_asked_in asks_all Unsent = true
is_asked_in asks_all Sent = asks_all
is_asked_in asks_all Due = true

-- A pass asks about all, unless the helper answered in it and it is none of those that ask about all.
abbrev pub asks_all_in : Bool → Bool → Bool
asks_all_in is_sweep true = is_sweep
asks_all_in is_sweep false = true

-- what the helper knows of a child once it was sent that child
abbrev pub sent_in : Watch → Watch
sent_in Unsent = Sent
sent_in Sent = Sent
sent_in Due = Due

-- what a new helper knows of a child that the last one knew so
abbrev pub unsent_in : Watch → Watch
unsent_in Unsent = Unsent
unsent_in Sent = Unsent
unsent_in Due = Due
