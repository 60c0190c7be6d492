pub mod HostLemmas
pub mod IgnoredLemmas
pub mod LabelLemmas
