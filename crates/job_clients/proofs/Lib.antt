mod Jobs
mod CallersLemmas
mod CrowdsLemmas
