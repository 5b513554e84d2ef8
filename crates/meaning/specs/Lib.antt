-- What a run means, and what holds of runs.
pub mod Act
pub mod Mean
pub mod Machine
pub mod View
pub mod Sound
pub mod States
pub mod Laws
pub mod Examples
