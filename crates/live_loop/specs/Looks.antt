-- The path checks of a pass at the paths that jobs list, and what is delivered of them.
use Rattle.std.specs.Prelude.{◌≡◌, ◌≢◌, ◌⊎◌, ℕ, ◌+◌, ◌<◌, Bool, true, false, List, [], length, Option, Some, None, bytes_eq}
use Rattle.history_model.specs.declared.Obs.{Obs}

-- what is asked of a launcher, and delivered to it, of the paths that its jobs list
pub data PathCall : Type 0 where
  BeginsLooks : PathCall  -- a series of path checks begins
  HasLoaded : Bool → PathCall  -- whether a load was accepted since that was asked before
  AsksAt : List ℕ → Bool → PathCall  -- it was asked what is at the path; false: that is to be asked later
  Awaits : List ℕ → Bool → PathCall  -- it was asked whether it is known what is at the path
  LookedAt : List ℕ → Option Obs → PathCall  -- what is at the path; None if the system refused the check
  Observed : List ℕ → Obs → PathCall  -- this observation of the path was delivered

-- what was delivered last of each path, as far as it is remembered
abbrev pub Known : Type 0
Known = List ℕ → Option Obs

-- no observation was delivered yet
abbrev pub IsEmpty : Known → Type 0
IsEmpty known = (path : List ℕ) → known path ≡ None

-- the same is known of each path
abbrev pub IsKept : Known → Known → Type 0
IsKept old new = (path : List ℕ) → new path ≡ old path

-- this observation of the path is known now, or none of it, for want of memory; of each other path what was known
pub record IsNoted (path : List ℕ) (obs : Obs) (old new : Known) : Type 0 where
  pub here : (new path ≡ Some obs) ⊎ (new path ≡ None)
  pub others : (other : List ℕ) → bytes_eq path other ≡ false → new other ≡ old other

-- what is known after a load: nothing, so that each observation is delivered again
abbrev pub known_after : Bool → Known → Known
known_after true known path = None
known_after false known path = known path

module _ {H : Type 0} (Did : PathCall → H → H → Type 0) where
  -- An observation that is what was delivered last is not delivered; any other is, once.
  abbrev pub Takes : List ℕ → Obs → H → Known → H → Known → Type 0
  Takes path obs old known new known' =
      ((known path ≡ Some obs) × (new ≡ old) × IsKept known known')
      ⊎ ((known path ≢ Some obs) × Did (Observed path obs) old new × IsNoted path obs known known')

  -- a refused check is not an event
  abbrev pub TakesIf : List ℕ → Option Obs → H → Known → H → Known → Type 0
  TakesIf path None old known new known' = (new ≡ old) × IsKept known known'
  TakesIf path (Some obs) old known new known' = Takes path obs old known new known'

  -- one check of the path, and what is delivered of it: an observation of that path, as it was seen there
  pub record Looks (path : List ℕ) (old : H) (known : Known) (new : H) (known' : Known) : Type 0 where
    pub seen : Option Obs
    pub mid : H
    pub looked : Did (LookedAt path seen) old mid
    pub taken : TakesIf path seen mid known new known'

-- No listed path comes after this one, or it is longer than paths are.
abbrev pub IsLast : {H : Type 0} → (H → List ℕ → Option (List ℕ) → Type 0) → H → List ℕ → Type 0
IsLast IsNext host path = IsNext host path None
    ⊎ ((next : List ℕ) × IsNext host path (Some next) × (1024 < length next))

module _ {H : Type 0} (IsNext : H → List ℕ → Option (List ℕ) → Type 0) (Did : PathCall → H → H → Type 0) where
  -- Nothing but questions about paths, by which nothing is delivered.
  pub data Questions (first : H) : H → Type 0 where
    no_question : Questions first first
    ahead : {mid new : H} {path : List ℕ} {answer : Bool} → Questions first mid → Did (AsksAt path answer) mid new → Questions first new
    awaits : {mid new : H} {path : List ℕ} {answer : Bool} → Questions first mid → Did (Awaits path answer) mid new → Questions first new

  -- `n` checks after this path, the last of them at that one. Each is at the path that then comes next after the one
  -- before, once it is known what is there. Questions may come between them.
  pub data Walks (first : H) (known : Known) (from : List ℕ) : ℕ → List ℕ → H → Known → Type 0 where
    no_look : Walks first known from 0 from first known
    asked : {n : ℕ} {path : List ℕ} {mid new : H} {after : Known} →
        Walks first known from n path mid after → Questions mid new → Walks first known from n path new after
    one_more : {n : ℕ} {path next : List ℕ} {mid seen new : H} {before after : Known} →
        Walks first known from n path mid before → IsNext mid path (Some next) → Did (Awaits next true) mid seen →
        Looks Did next seen before new after → Walks first known from (n + 1) next new after

  -- The checks go on after this path, and then either on after that one, or no listed path comes after the last of
  -- them.
  pub record WalksOn (from : List ℕ) (old : H) (known : Known) (new : H) (known' : Known) (to : Option (List ℕ)) : Type 0 where
    pub looks : ℕ
    pub last : List ℕ
    pub walk : Walks old known from looks last new known'
    pub rest : (to ≡ Some last) ⊎ ((to ≡ None) × IsLast IsNext new last)

  -- A series of path checks that goes on does so after its last path; else one begins before all paths.
  abbrev pub Starts : Option (List ℕ) → H → List ℕ → H → Type 0
  Starts (Some path) old from started = (from ≡ path) × (started ≡ old)
  Starts None old from started = (from ≡ []) × Did BeginsLooks old started

  -- Either way it is then asked whether a load was accepted meanwhile: after one each observation is delivered again.
  pub record Begins (at : Option (List ℕ)) (old : H) (known : Known) (from : List ℕ) (first : H) (begun : Known) : Type 0 where
    pub started : H
    pub starts : Starts at old from started
    pub loaded : Bool
    pub asks : Did (HasLoaded loaded) started first
    pub forgets : IsKept (known_after loaded known) begun

  -- A series of path checks begins or goes on: paths are asked about, and then checked.
  pub record LooksOn (at : Option (List ℕ)) (old : H) (known : Known) (at' : Option (List ℕ)) (new : H) (known' : Known) : Type 0 where
    pub from : List ℕ
    pub first : H
    pub begun : Known
    pub begins : Begins at old known from first begun
    pub mid : H
    pub asks : Questions first mid
    pub walks : WalksOn from mid begun new known' at'
