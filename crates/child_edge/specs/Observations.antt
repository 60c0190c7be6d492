-- What was seen at a path, out of what a helper answers.
use Rattle.std.specs.Prelude.{Option, Some, None, true, false}
use Rattle.history_model.specs.declared.Obs.{Obs}
use Rattle.look_out.specs.declared.answer.Answer.{Answer}
use Rattle.look_out.specs.declared.answer.Answer.TheVariants.{Absent, There, Filled, Held, Refused, Fifo, Socket, Folder, Device, Shut}

-- the observation that an answer to a check is: none, if the check was refused
abbrev pub observation_in : Answer → Option Obs
observation_in Absent = Some (record { present = false; nonempty_dir = false; stamp = 0 })
observation_in (There stamp) = Some (record { present = true; nonempty_dir = false; stamp = stamp })
observation_in (Filled stamp) = Some (record { present = true; nonempty_dir = true; stamp = stamp })
observation_in (Held number) = None
observation_in (Refused error) = None
observation_in Fifo = None
observation_in Socket = None
observation_in Folder = None
observation_in Device = None
observation_in Shut = None
