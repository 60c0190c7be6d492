-- What most parts of an event leave as it was.
use Rattle.std.specs.Prelude.{◌≡◌}
use Rattle.loaded_jobs.specs.declared.jobs.Jobs.{Jobs}

pub record IsAlike (old new : Jobs) : Type 0 where
  pub reading : new.reading ≡ old.reading
  pub zone : new.zone ≡ old.zone
  pub settings : new.settings ≡ old.settings
  pub shutdown : new.is_shutting_down ≡ old.is_shutting_down
