-- Room for clients, calculated manually.
use Rattle.std.proofs.Common.{◌≡◌, Some, None, refl}
use Rattle.child_edge.specs.Rooms.{room_by}

-- (1,024 - 32) / 4 = 248, and one
common_limit : room_by (Some 1024) 0 ≡ 249
common_limit = refl

-- 1,024 - 32 - 790 = 202, a quarter of which is 50
beside_790_sockets : room_by (Some 1024) 790 ≡ 51
beside_790_sockets = refl

last_socket : room_by (Some 1024) 992 ≡ 1
last_socket = refl

one_socket_too_many : room_by (Some 1024) 993 ≡ 0
one_socket_too_many = refl

low_limit : room_by (Some 64) 20 ≡ 4
low_limit = refl

least_limit : room_by (Some 32) 0 ≡ 1
least_limit = refl

below_the_least_limit : room_by (Some 31) 0 ≡ 0
below_the_least_limit = refl

high_limit : room_by (Some 65536) 8192 ≡ 256
high_limit = refl

unknown_limit : room_by None 8192 ≡ 256
unknown_limit = refl
