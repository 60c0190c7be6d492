-- What a helper answers, as the nine bytes that cross its socket.
use Rattle.std.specs.Prelude.{ℕ, List, ◌∷◌, ◌+◌, fold, nat_eq, if◌then◌else◌}
use Rattle.std.specs.Int.{w64, to_le_bytes}
use Rattle.look_out.specs.declared.answer.Answer.{Answer}
use Rattle.look_out.specs.declared.answer.Answer.TheVariants.{Absent, There, Filled, Held, Refused, Fifo, Socket, Folder, Device, Shut}

-- the first byte
abbrev pub tag_of : Answer → ℕ
tag_of Absent = 0
tag_of (There stamp) = 1
tag_of (Filled stamp) = 2
tag_of (Held number) = 3
tag_of (Refused error) = 4
tag_of Fifo = 5
tag_of Socket = 6
tag_of Folder = 7
tag_of Device = 8
tag_of Shut = 9

-- the number that the other eight say
abbrev pub number_of : Answer → ℕ
number_of Absent = 0
number_of (There stamp) = stamp
number_of (Filled stamp) = stamp
number_of (Held number) = number
number_of (Refused error) = error
number_of Fifo = 0
number_of Socket = 0
number_of Folder = 0
number_of Device = 0
number_of Shut = 0

-- the nine bytes
abbrev pub code_of : Answer → List ℕ
code_of a = tag_of a ∷ to_le_bytes w64 (number_of a)

-- how many questions end within the bytes: each ends with a NUL, and none has another
abbrev pub asked_in : List ℕ → ℕ
asked_in bytes = fold (λ n byte. if nat_eq byte 0 then n + 1 else n) 0 bytes
