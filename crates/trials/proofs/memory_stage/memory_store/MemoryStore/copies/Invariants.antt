-- The invariants of the loop of `memory_stage::memory_store::MemoryStore::copies`.
use Rattle.std.proofs.Common.{◌≡◌, take}
use Rattle.trials.proofs.memory_stage.memory_store.MemoryStore.copies.Given as goal

-- what was copied so far
abbrev pub invariant-loop-setting : goal.invariant-loop-setting
invariant-loop-setting l = l.all.items ≡ take l.setting-index l.self.held.items
