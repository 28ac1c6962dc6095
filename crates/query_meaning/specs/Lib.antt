pub mod Variables
pub mod Plan
pub mod Sound
pub mod Local
pub mod Names
pub mod Laws
pub mod Standing
