-- Where a further client of a job's socket can be, and which client goes for it.
use Rattle.std.specs.Prelude.{ℕ, suc, ◌+◌, ◌≤◌, ◌<◌, ◌≡◌, ◌⊎◌, Bool, true, false, ◌||◌, ◌&&◌, ◌==◌, not, nat_lt, nat_le, min, max, ◌/◌, List, [], ◌∷◌, length, count_by, Option, Some, None, if◌then◌else◌}
use Rattle.std.specs.List.{All, Contains, list_any}
use Rattle.job_clients.specs.declared.places.CallerRoom.{CallerRoom}
use Rattle.job_clients.specs.declared.places.Received.{Received}
use Rattle.job_clients.specs.declared.places.CallerPlace.{CallerPlace}
use Rattle.job_clients.specs.declared.places.CallerPlace.TheVariants.{Free, Of, Nowhere, Next, Later}

-- Room for `clients` clients, 256 at most: a third of them, 64 at most and one at least, may be of one job.
abbrev pub room_by : ℕ → CallerRoom
room_by clients = record {
  of_a_job = min (max (min clients 256 / 3) 1) 64;
  in_all = min clients 256;
  share = min clients 256;
}

-- how many clients of the bind's job are heard
abbrev pub own : List Received → ℕ → ℕ
own callers bind = count_by (λ one. one.bind == bind) callers

-- how many jobs these binds are of
unfoldable pub how_many_jobs : List ℕ → ℕ
how_many_jobs [] = 0
how_many_jobs (bind ∷ others) =
    if list_any (λ one. one == bind) others then how_many_jobs others else suc (how_many_jobs others)

-- what each of these jobs can have of the room, one at least
abbrev pub share_by : ℕ → ℕ → ℕ
share_by in_all jobs = max 1 (in_all / max 1 jobs)

-- the room, where the jobs of these binds share it
abbrev pub shared_room : CallerRoom → List ℕ → CallerRoom
shared_room room binds = record room { share = share_by room.in_all (how_many_jobs binds) }

-- the job has the most clients that a job may have
unfoldable pub is_at_bound : CallerRoom → List Received → ℕ → Bool
is_at_bound room callers bind = nat_le room.of_a_job (own callers bind)

-- all jobs together have the most that all may have
unfoldable pub is_full : CallerRoom → List Received → Bool
is_full room callers = nat_le room.in_all (length callers)

-- the job has fewer clients than its share
unfoldable pub is_below_share : CallerRoom → List Received → ℕ → Bool
is_below_share room callers bind = nat_lt (own callers bind) room.share

-- clients of another job wait for a place
abbrev pub others_wait : List ℕ → ℕ → Bool
others_wait waiting bind = nat_lt 0 (count_by (λ one. not (one == bind)) waiting)

-- the job has its share, and clients of another job wait
unfoldable pub gives_way : CallerRoom → List Received → List ℕ → ℕ → Bool
gives_way room callers waiting bind =
    not (is_below_share room callers bind) && others_wait waiting bind

-- one that may have to go for a further client of the bind: any, or one of the same bind
abbrev pub is_rival : Bool → ℕ → Received → Bool
is_rival of_any bind one = of_any || one.bind == bind

-- a further client of the bind may take the place of any other's
abbrev pub of_any : CallerRoom → List Received → List ℕ → ℕ → Bool
of_any room callers waiting bind =
    not (is_at_bound room callers bind) && not (gives_way room callers waiting bind)

-- the rival that came first, and 5 seconds ago at least
pub record IsFirst (is_rival : Received → Bool) (callers : List Received) (up : ℕ) (one : Received) : Type 0 where
  pub is_there : Contains callers one
  pub is_one : is_rival one ≡ true
  pub is_old : one.came + 5000 ≤ up
  pub is_first : All (λ other. is_rival other ≡ true → one.came ≤ other.came) callers

-- the key of that rival; without one, each rival came within the last 5 seconds
abbrev pub IsFirstOld : (Received → Bool) → List Received → ℕ → Option ℕ → Type 0
IsFirstOld is_rival callers up None =
    All (λ other. is_rival other ≡ true → up < other.came + 5000) callers
IsFirstOld is_rival callers up (Some key) =
    (one : Received) × (one.key ≡ key) × IsFirst is_rival callers up one

-- in the place of that one, and so if there is none
abbrev pub by_first : CallerPlace → Option ℕ → CallerPlace
by_first otherwise None = otherwise
by_first otherwise (Some key) = Of key

-- Where the client can be, if this one may go for it:
abbrev pub place_by : Bool → Bool → Bool → Bool → Option ℕ → CallerPlace
place_by is_at_bound is_full is_below_share gives_way first =
    -- at the bound of its job it takes the place of that one, and has no place if there is none
    if is_at_bound then by_first Nowhere first
    -- at the bound of all jobs likewise, but it waits if there is none, and the others give way to it if its job is below its share
    else if is_full then by_first (if is_below_share then Next else Later) first
    -- else a place is free, which is taken from nobody, and left to who waits if the job has its share
    else if gives_way then Later
    else Free

-- the place of a further client of the bind at this time
abbrev pub IsPlace : CallerRoom → List Received → List ℕ → ℕ → ℕ → CallerPlace → Type 0
IsPlace room callers waiting bind up place =
    (first : Option ℕ)
    × IsFirstOld (is_rival (of_any room callers waiting bind) bind) callers up first
    × (place ≡ place_by (is_at_bound room callers bind) (is_full room callers)
    (is_below_share room callers bind) (gives_way room callers waiting bind) first)
