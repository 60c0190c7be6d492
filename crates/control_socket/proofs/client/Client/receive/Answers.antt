-- What came is taken, and the `serve` in which it was checked is forgotten.
use Rattle.control_socket.proofs.client.Client.receive.Goals as goal

pub returns-then-has_come : goal.returns-then-has_come
returns-then-has_come c = record { taken = c.read_or_note-has_come.ensures.taken; receives = c.read_or_note-has_come.ensures.receives }

pub returns-else-has_come : goal.returns-else-has_come
returns-else-has_come c = record { taken = c.read_or_note-has_come.ensures.taken; receives = c.read_or_note-has_come.ensures.receives }
