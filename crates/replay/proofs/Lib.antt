pub mod LauncherLemmas
pub mod OneOutputLemmas
