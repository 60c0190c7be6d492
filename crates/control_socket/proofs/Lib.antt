pub mod DialoguesLemmas
pub mod ServingLemmas
pub mod ExchangesLemmas
pub mod WaitingLemmas
pub mod GoingOnLemmas
pub mod LivesLemmas
