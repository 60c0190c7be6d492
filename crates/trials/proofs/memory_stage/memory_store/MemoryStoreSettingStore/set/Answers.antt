-- The answers to the goals of `memory_stage::memory_store::MemoryStoreSettingStore::set`.
use Rattle.trials.proofs.memory_stage.memory_store.MemoryStoreSettingStore.set.Goals as goal

-- it records nothing
pub returns : goal.returns
returns c = record { told = λ after is. cc; stored = λ settings holds. tt; stamped = λ stamps had. tt }
